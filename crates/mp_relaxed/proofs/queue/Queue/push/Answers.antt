use Rattle.std.proofs.Common.{◌≤◌, List, ◌∷◌, ◌++◌, map, subst, arith}
use Rattle.std.proofs.lemmas.List.Elements.{All-cons}
use Rattle.std.proofs.lemmas.List.Sorted.{All-permutation, IsPermutation-map}
use Rattle.std.specs.BinaryHeap.{heap_items}
use Rattle.std.specs.List.Sorted.{IsPermutation}
use Rattle.std.specs.declared.cmp.Reverse.{Reverse}
use Rattle.mp_estimates.specs.Lowering.{Key, key}
use Rattle.mp_relaxed.proofs.QueueLemmas.{on_ok, pushed_high, pushed_low}
use Rattle.mp_relaxed.proofs.queue.Queue.push.Goals as goal

pub invariant_of-self-else-number : goal.invariant_of-self-else-number
invariant_of-self-else-number c = record {
  order = c.in_ok-push.ensures.heap_order c.self.invariant.order;
  high =
      All-permutation (λ (e : Reverse Key). 1024 ≤ e.0.0) _ (heap_items c.push-else-number.new.self) c.in_ok-push.ensures.permutation
      (All-cons (λ (e : Reverse Key). 1024 ≤ e.0.0) (record { 0 = (c.args.number, c.args.fact) }) (heap_items c.self.inside.heap) (omega arith) c.self.invariant.high);
}

pub returns-then-number : goal.returns-then-number
returns-then-number c =
    let rest : List Key = map (λ (e : Reverse Key). e.0) (heap_items c.self.inside.heap) in
    on_ok c.push.result
    (λ pushed.
    subst (λ l. IsPermutation (key c.args.number c.args.fact ∷ l) (c.push.new.self ++ rest)) c.self.view_is
    (pushed_low c.self.inside.places c.push.new.self rest (key c.args.number c.args.fact) pushed))
    c.push.ensures

pub returns-in_ok-push : goal.returns-in_ok-push
returns-in_ok-push c =
    let new : List Key = map (λ (e : Reverse Key). e.0) (heap_items c.push-else-number.new.self) in
    subst (λ l. IsPermutation (key c.args.number c.args.fact ∷ l) (c.self.inside.places ++ new)) c.self.view_is
    (pushed_high c.self.inside.places (map (λ (e : Reverse Key). e.0) (heap_items c.self.inside.heap)) new (key c.args.number c.args.fact)
    (IsPermutation-map (λ (e : Reverse Key). e.0) _ _ c.in_ok-push.ensures.permutation))
