use Rattle.std.proofs.Common.{◌+◌, ◌∙◌, get_or, subst, arith}
use Rattle.std.proofs.lemmas.List.{take_all}
use Rattle.mp_relaxed.specs.Relaxed.{operator_at}
use Rattle.mp_relaxed.specs.Search.{AreLowered}
use Rattle.mp_relaxed.proofs.CountLemmas.{ServedSoFar, lowered_more, served_more, times_more}
use Rattle.mp_estimates.proofs.LoweringLemmas.{fallen_trans}
use Rattle.mp_relaxed.proofs.SearchLemmas.{stayed_trans}
use Rattle.mp_relaxed.proofs.SettledLemmas.{most_stayed}
use Rattle.mp_relaxed.proofs.TimesLemmas.{times_same, times_taken}
use Rattle.mp_relaxed.proofs.search.count_down_all.Goals as goal

pub count_down-requires-clause-reached : goal.count_down-requires-clause-reached
count_down-requires-clause-reached c = λ low.
    let all = c.args.operators.now in
    let i = c.loop-k.k-index in
    let k = get_or all i 0 in
    let within = c.requires.operators i 0 (omega arith) in
    let so_far = c.loop-k.invariant.lowered k in
    let here = times_more k all i (omega arith) in
    let one = times_same k in
    let up_to = times_taken k all (i + 1) in
    (most_stayed c.args.cost c.args.numbers.now.items c.args.queue.now c.loop-k.numbers.items c.loop-k.queue (operator_at c.args.problem.now.operators k).pre c.loop-k.invariant.stayed
    (c.requires.reached k within (omega arith) (omega arith))).is

pub loop-k-preserved : goal.loop-k-preserved
loop-k-preserved c =
    let os = c.args.problem.now.operators in
    let all = c.args.operators.now in
    let i = c.loop-k.k-index in
    let step = c.in_ok-count_down.ensures in
    record {
      len = c.count_down.ensures.len ∙ c.loop-k.invariant.len;
      counted = c.count_down.ensures.counted ∙ c.loop-k.invariant.counted;
      fallen = fallen_trans _ _ _ _ _ _ c.loop-k.invariant.fallen step.fallen;
      stayed = stayed_trans _ _ _ _ _ _ _ c.loop-k.invariant.stayed step.stayed;
      lowered = lowered_more c.args.counters.now.items c.loop-k.counters.items all c.count_down.new.counters.items i (omega arith) c.loop-k.invariant.lowered step.lowered;
      served = served_more os all i c.loop-k.numbers.items c.loop-k.queue c.loop-k.counters.items c.count_down.new.numbers.items c.count_down.new.queue c.count_down.new.counters.items (omega arith) step.fallen step.lowered step.served c.loop-k.invariant.served;
      below = λ values low below. step.below values low (c.loop-k.invariant.below values low below);
    }

pub returns-clause-lowered : goal.returns-clause-lowered
returns-clause-lowered c =
    subst (λ l. AreLowered c.args.counters.now.items l c.loop-k.counters.items) (take_all c.loop-k.k-index c.args.operators.now (omega arith)) c.loop-k.invariant.lowered

pub returns-clause-served : goal.returns-clause-served
returns-clause-served c =
    subst (λ l. ServedSoFar c.args.problem.now.operators l c.loop-k.numbers.items c.loop-k.queue c.loop-k.counters.items) (take_all c.loop-k.k-index c.args.operators.now (omega arith)) c.loop-k.invariant.served
