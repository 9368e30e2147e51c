use Rattle.std.proofs.Common.{◌≡◌, true, Contains, get_or, below_more, arith}
use Rattle.mp_estimates.specs.Lowering.{value_at}
use Rattle.mp_relaxed.specs.Relaxed.{operator_at}
use Rattle.mp_relaxed.proofs.TimesLemmas.{times_contained}
use Rattle.mp_lmcut.specs.Cut.{in_cut}
use Rattle.mp_lmcut.specs.Sides.{AreValuesFor}
use Rattle.mp_lmcut.proofs.ListedLemmas.{noted_refl, noted_trans}
use Rattle.mp_lmcut.proofs.ZoneLemmas.{at_times}
use Rattle.mp_lmcut.proofs.costs.note_each.Goals as goal

pub loop-k-init : goal.loop-k-init
loop-k-init c = record {
  len = c.requires.near;
  marks = c.requires.marks;
  noted = λ s h. noted_refl (in_cut (value_at c.args.numbers.now) c.args.problem.now.operators c.args.problem.now.goals s) c.args.problem.now.operators c.args.cut.now.items c.args.costs.now.items;
  each = λ j lt. absurd (omega (arith, lt));
}

pub loop-k-preserved : goal.loop-k-preserved
loop-k-preserved c =
    let v = value_at c.args.numbers.now in
    let os = c.args.problem.now.operators in
    let goals = c.args.problem.now.goals in
    let listed = c.args.operators.now in
    let new = c.note.new.cut.items in
    record {
      len = c.in_ok-note.ensures.near;
      marks = c.in_ok-note.ensures.marks;
      noted = λ s h. noted_trans (in_cut v os goals s) os _ _ c.loop-k.cut.items c.loop-k.costs.items new c.note.new.costs.items (c.loop-k.invariant.noted s h) (c.in_ok-note.ensures.noted s h);
      each = below_more (λ j. (s : _) → AreValuesFor v os goals c.args.most s → in_cut v os goals s (operator_at os (get_or listed j 0)) ≡ true → Contains new (get_or listed j 0)) c.loop-k.k-index
          (λ j lt s h e. (c.in_ok-note.ensures.noted s h).kept (get_or listed j 0) (c.loop-k.invariant.each j lt s h e))
          c.in_ok-note.ensures.here;
    }

pub returns-clause-each : goal.returns-clause-each
returns-clause-each c = λ s h k here e.
    let v = value_at c.args.numbers.now in
    let os = c.args.problem.now.operators in
    let goals = c.args.problem.now.goals in
    at_times (λ j. in_cut v os goals s (operator_at os j) ≡ true → Contains c.loop-k.cut.items j) k c.args.operators.now
    (λ j lt. c.loop-k.invariant.each j (omega arith) s h)
    (times_contained k c.args.operators.now here) e
