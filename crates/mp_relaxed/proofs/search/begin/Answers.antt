use Rattle.std.proofs.Common.{◌+◌, length, ap, sym, subst, Some, arith}
use Rattle.mp_estimates.specs.Estimates.{AtMost}
use Rattle.mp_estimates.specs.Lowering.{IsProper}
use Rattle.mp_estimates.proofs.LoweringLemmas.{fallen_trans, all_below, none_at}
use Rattle.mp_relaxed.proofs.SearchLemmas.{all_served}
use Rattle.mp_estimates.proofs.ProperLemmas.{none_proper}
use Rattle.mp_relaxed.proofs.CountLemmas.{open_kept}
use Rattle.mp_relaxed.proofs.search.begin.Goals as goal

pub returns-clause-inside : goal.returns-clause-inside
returns-clause-inside c =
    let fallen = fallen_trans _ _ _ _ _ _ (fallen_trans _ _ _ _ _ _ c.in_ok-mark.ensures.fallen c.in_ok-mark-2.ensures.fallen) c.in_ok-relax_each.ensures.fallen in
    let none = ap length c.clear.ensures in
    λ i d lt.
    let there = fallen.inside (λ j e less. absurd (omega arith)) i d lt in
    let one = c.relax_each.ensures.len in
    let two = c.mark-2.ensures.len in
    let three = c.mark.ensures.len in
    omega arith

pub returns-clause-served : goal.returns-clause-served
returns-clause-served c = λ k lt.
    all_served c.args.problem.now.operators c.forget.new.numbers.items c.clear.new.self c.relax_each.new.numbers.items c.relax_each.new.queue k c.forget.ensures.none
    (fallen_trans _ _ _ _ _ _ (fallen_trans _ _ _ _ _ _ c.in_ok-mark.ensures.fallen c.in_ok-mark-2.ensures.fallen) c.in_ok-relax_each.ensures.fallen)
    (λ e. c.in_ok-relax_each.ensures.served k (c.free.ensures.all k lt e))

pub returns-clause-below : goal.returns-clause-below
returns-clause-below c = λ values low pubs privs.
    c.in_ok-relax_each.ensures.below values low
    (c.in_ok-mark-2.ensures.below values (λ x lt member. subst (λ n. AtMost (values (n + x)) (Some 0)) (sym c.publics.ensures) (privs x lt member))
    (c.in_ok-mark.ensures.below values pubs (all_below values c.forget.new.numbers.items c.forget.ensures.none)))

pub returns-clause-all_open : goal.returns-clause-all_open
returns-clause-all_open c = λ x.
    open_kept c.forget.new.numbers.items c.clear.new.self c.relax_each.new.numbers.items c.relax_each.new.queue x
    (fallen_trans _ _ _ _ _ _ (fallen_trans _ _ _ _ _ _ c.in_ok-mark.ensures.fallen c.in_ok-mark-2.ensures.fallen) c.in_ok-relax_each.ensures.fallen)
    (λ _. let none = none_at c.forget.new.numbers.items c.forget.ensures.none x in omega arith)

pub returns-clause-proper : goal.returns-clause-proper
returns-clause-proper c =
    (fallen_trans _ _ _ _ _ _ (fallen_trans _ _ _ _ _ _ c.in_ok-mark.ensures.fallen c.in_ok-mark-2.ensures.fallen) c.in_ok-relax_each.ensures.fallen).proper
    (subst (IsProper c.forget.new.numbers.items) (sym c.clear.ensures) (none_proper c.forget.new.numbers.items))
