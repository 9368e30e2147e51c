use Rattle.std.proofs.Common.{◌≡◌, ◌<◌, [], All, ap, sym, ◌∙◌, subst, length, arith, true}
use Rattle.std.proofs.lemmas.List.{get_or_default}
use Rattle.mp_relaxed.specs.Relaxed.{HasAdders}
use Rattle.mp_estimates.specs.Lowering.{value_at}
use Rattle.mp_lmcut.specs.Marked.{is_marked}
use Rattle.mp_lmcut.specs.Sides.{IsBehind, TracesBack}
use Rattle.mp_lmcut.proofs.AskLemmas.{IsBack, back_found, back_none, back_start, back_step, traces_kept}
use Rattle.mp_lmcut.proofs.MarkLemmas.{grown_weaker, marked_below, popped_marked, reached_all, reaching_grown, reaching_none, reaching_step}
use Rattle.mp_lmcut.proofs.near.is_reached.Goals as goal

pub facts-init : goal.facts-init
facts-init c =
    let v = value_at c.args.numbers.now in
    let os = c.args.problem.now.operators in
    let goals = c.args.problem.now.goals in
    let zone = c.args.zone.now.flags in
    let Such = IsBack v os goals zone c.args.most c.args.x in
    let Follows = TracesBack v c.args.most os zone in
    record {
      len = c.in_ok-mark.ensures.grown.sized ∙ c.in_ok-begin.ensures.len ∙ c.facts-2.ensures;
      here = c.in_ok-mark.ensures.here;
      reaching =
          reaching_grown Such Follows (traces_kept v c.args.most os zone) c.begin.new.self c.mark.new.self
          (grown_weaker (λ y. y ≡ c.args.x) Such c.begin.new.self c.mark.new.self
          (λ y e. subst Such (sym e) (back_start v os goals zone c.requires.zone c.args.most c.args.x c.requires.outside c.requires.dear))
          c.in_ok-mark.ensures.grown)
          (reaching_none Such Follows (traces_kept v c.args.most os zone) c.begin.new.self c.in_ok-begin.ensures.none c.in_ok-begin.ensures.todo);
    }

pub has-requires : goal.has-requires
has-requires c =
    let v = value_at c.args.numbers.now in
    let os = c.args.problem.now.operators in
    let zone = c.args.zone.now.flags in
    let inside = marked_below c.facts.asked.flags c.in-Some.y
    (popped_marked (IsBack v os c.args.problem.now.goals zone c.args.most c.args.x) (TracesBack v c.args.most os zone) (traces_kept v c.args.most os zone) c.facts.asked c.next.new.self c.next.new.self c.in-Some.y c.in-Some.ensures.flags c.in-Some.ensures.some c.facts.invariant.reaching) in
    omega (arith, c.facts.invariant.len, c.requires.near)

pub returns-then-has : goal.returns-then-has
returns-then-has c = λ s h.
    let v = value_at c.args.numbers.now in
    let os = c.args.problem.now.operators in
    let goals = c.args.problem.now.goals in
    let zone = c.args.zone.now.flags in
    let Such = IsBack v os goals zone c.args.most c.args.x in
    let marked = popped_marked Such (TracesBack v c.args.most os zone) (traces_kept v c.args.most os zone) c.facts.asked c.next.new.self c.next.new.self c.in-Some.y c.in-Some.ensures.flags c.in-Some.ensures.some c.facts.invariant.reaching in
    sym ((c.facts.invariant.reaching.sound c.in-Some.y marked).leads s (c.requires.marks s h c.in-Some.y (sym c.has.ensures ∙ c.if-has.true)))

pub bounds-adders-y : goal.bounds-adders-y
bounds-adders-y c =
    let v = value_at c.args.numbers.now in
    let os = c.args.problem.now.operators in
    let zone = c.args.zone.now.flags in
    let inside = marked_below c.facts.asked.flags c.in-Some.y
    (popped_marked (IsBack v os c.args.problem.now.goals zone c.args.most c.args.x) (TracesBack v c.args.most os zone) (traces_kept v c.args.most os zone) c.facts.asked c.next.new.self c.next.new.self c.in-Some.y c.in-Some.ensures.flags c.in-Some.ensures.some c.facts.invariant.reaching) in
    omega (arith, c.facts.invariant.len, c.requires.adders.sized)

pub trace_all-requires-clause-operators : goal.trace_all-requires-clause-operators
trace_all-requires-clause-operators c =
    let v = value_at c.args.numbers.now in
    let os = c.args.problem.now.operators in
    let zone = c.args.zone.now.flags in
    let marked = marked_below c.facts.asked.flags c.in-Some.y
    (popped_marked (IsBack v os c.args.problem.now.goals zone c.args.most c.args.x) (TracesBack v c.args.most os zone) (traces_kept v c.args.most os zone) c.facts.asked c.next.new.self c.next.new.self c.in-Some.y c.in-Some.ensures.flags c.in-Some.ensures.some c.facts.invariant.reaching) in
    let inside : c.in-Some.y < length c.args.adders.now = omega (arith, c.facts.invariant.len, c.requires.adders.sized) in
    subst (All (λ k. k < length c.args.problem.now.operators)) (sym (c.as_slice-row.ensures ∙ c.index-adders-y.is))
    (c.requires.adders.below c.in-Some.y c.index-adders-y.result inside)

pub trace_all-requires-clause-adders : goal.trace_all-requires-clause-adders
trace_all-requires-clause-adders c =
    let v = value_at c.args.numbers.now in
    let os = c.args.problem.now.operators in
    let zone = c.args.zone.now.flags in
    let marked = marked_below c.facts.asked.flags c.in-Some.y
    (popped_marked (IsBack v os c.args.problem.now.goals zone c.args.most c.args.x) (TracesBack v c.args.most os zone) (traces_kept v c.args.most os zone) c.facts.asked c.next.new.self c.next.new.self c.in-Some.y c.in-Some.ensures.flags c.in-Some.ensures.some c.facts.invariant.reaching) in
    let inside : c.in-Some.y < length c.args.adders.now = omega (arith, c.facts.invariant.len, c.requires.adders.sized) in
    subst (HasAdders c.args.problem.now.operators c.in-Some.y)
    (sym (c.as_slice-row.ensures ∙ c.index-adders-y.is ∙ get_or_default c.args.adders.now c.in-Some.y c.index-adders-y.result [] inside))
    (c.requires.adders.all c.in-Some.y)

pub returns-then-found : goal.returns-then-found
returns-then-found c = λ s h.
    let v = value_at c.args.numbers.now in
    let os = c.args.problem.now.operators in
    let goals = c.args.problem.now.goals in
    let zone = c.args.zone.now.flags in
    let Such = IsBack v os goals zone c.args.most c.args.x in
    let marked = popped_marked Such (TracesBack v c.args.most os zone) (traces_kept v c.args.most os zone) c.facts.asked c.next.new.self c.next.new.self c.in-Some.y c.in-Some.ensures.flags c.in-Some.ensures.some c.facts.invariant.reaching in
    back_found v os goals zone c.requires.zone c.args.most c.args.x c.in-Some.y
    (c.facts.invariant.reaching.sound c.in-Some.y marked)
    (c.in_ok-found.ensures.found c.if-found.true) s h

pub facts-preserved : goal.facts-preserved
facts-preserved c =
    let v = value_at c.args.numbers.now in
    let os = c.args.problem.now.operators in
    let goals = c.args.problem.now.goals in
    let zone = c.args.zone.now.flags in
    let Such = IsBack v os goals zone c.args.most c.args.x in
    let Follows = TracesBack v c.args.most os zone in
    let marked = popped_marked Such Follows (traces_kept v c.args.most os zone) c.facts.asked c.next.new.self c.next.new.self c.in-Some.y c.in-Some.ensures.flags c.in-Some.ensures.some c.facts.invariant.reaching in
    let grown = c.in_ok-found.ensures.grown in
    let wider = grown_weaker (IsBehind v c.args.most os zone c.in-Some.y) Such c.next.new.self c.trace_all.new.asked
    (λ z behind. back_step v os goals zone c.requires.zone c.args.most c.args.x c.in-Some.y z (c.facts.invariant.reaching.sound c.in-Some.y marked) behind)
    grown in
    record {
      len = grown.sized ∙ ap length c.in-Some.ensures.flags ∙ c.facts.invariant.len;
      here = grown.kept c.args.x (subst (λ l. is_marked l c.args.x ≡ true) (sym c.in-Some.ensures.flags) c.facts.invariant.here);
      reaching =
          reaching_step Such Follows (traces_kept v c.args.most os zone) c.facts.asked c.next.new.self c.trace_all.new.asked c.in-Some.y c.in-Some.ensures.flags c.in-Some.ensures.some c.facts.invariant.reaching wider (c.in_ok-found.ensures.done c.if-found.false);
    }

pub returns : goal.returns
returns c = λ s h.
    let v = value_at c.args.numbers.now in
    let os = c.args.problem.now.operators in
    let goals = c.args.problem.now.goals in
    let zone = c.args.zone.now.flags in
    back_none v os goals zone c.requires.zone c.args.most c.args.x c.facts.asked.flags c.facts.invariant.here
    (reached_all (IsBack v os goals zone c.args.most c.args.x) (TracesBack v c.args.most os zone) (traces_kept v c.args.most os zone) c.facts.asked c.in_default.ensures.none c.facts.invariant.reaching) s h
