use Rattle.std.proofs.Common.{[], get_or, below_more, sym, ◌∙◌, subst, arith}
use Rattle.mp_estimates.specs.Lowering.{value_at}
use Rattle.mp_lmcut.specs.Cut.{in_cut}
use Rattle.mp_lmcut.specs.Sides.{AreListed, AreNoted, AreValuesFor}
use Rattle.mp_lmcut.proofs.ListedLemmas.{all_noted, listed_none}
use Rattle.mp_lmcut.proofs.MarkLemmas.{none_marked}
use Rattle.std.proofs.lemmas.Bool.{both_ways}
use Rattle.mp_lmcut.proofs.costs.list_cut.Goals as goal

pub loop-x-init : goal.loop-x-init
loop-x-init c =
    let v = value_at c.args.numbers.now in
    let os = c.args.problem.now.operators in
    let goals = c.args.problem.now.goals in
    record {
      len = c.in_ok-begin.ensures.len ∙ c.facts.ensures;
      marks = λ s h y m. absurd (both_ways _ (none_marked c.begin.new.self.flags c.in_ok-begin.ensures.none y) m);
      listed = λ s h. subst (λ l. AreListed (in_cut v os goals s) os l c.empty.new.costs.items) (sym c.empty.ensures.cut)
          (subst (AreListed (in_cut v os goals s) os []) (sym c.empty.ensures.costs) (listed_none (in_cut v os goals s) os));
      seen = λ j lt. absurd (omega (arith, lt));
    }

pub note_adders-requires-clause-fact : goal.note_adders-requires-clause-fact
note_adders-requires-clause-fact c = c.requires.inside.below c.loop-x.x-index 0 (omega arith)

pub note_adders-requires-clause-inside : goal.note_adders-requires-clause-inside
note_adders-requires-clause-inside c = c.requires.inside.alone c.loop-x.x-index 0 (omega arith)

pub loop-x-preserved : goal.loop-x-preserved
loop-x-preserved c =
    let v = value_at c.args.numbers.now in
    let os = c.args.problem.now.operators in
    let goals = c.args.problem.now.goals in
    let inside = c.args.inside.now in
    let new = c.note_adders.new.cut.items in
    record {
      len = c.in_ok-note_adders.ensures.near;
      marks = c.in_ok-note_adders.ensures.marks;
      listed = λ s h. (c.in_ok-note_adders.ensures.noted s h).listed (c.loop-x.invariant.listed s h);
      seen = below_more (λ j. (s : _) → AreValuesFor v os goals c.args.most s → AreNoted (in_cut v os goals s) os (get_or inside j 0) new) c.loop-x.x-index
          (λ j lt s h k within adding e. (c.in_ok-note_adders.ensures.noted s h).kept k (c.loop-x.invariant.seen j lt s h k within adding e))
          c.in_ok-note_adders.ensures.each;
    }

pub returns-clause-all : goal.returns-clause-all
returns-clause-all c = λ s h.
    all_noted (value_at c.args.numbers.now) c.args.problem.now.operators c.args.problem.now.goals s c.args.inside.now c.loop-x.cut.items c.requires.inside.all
    (λ j lt. c.loop-x.invariant.seen j (omega arith) s h)
