use Rattle.std.proofs.Common.{◌≤◌, List, ◌∷◌, ◌++◌, map, sym, subst, arith}
use Rattle.std.proofs.lemmas.List.Elements.{All-append, All-map}
use Rattle.std.proofs.lemmas.List.Sorted.{IsPermutation-map}
use Rattle.std.specs.BinaryHeap.{heap_items}
use Rattle.std.specs.List.Sorted.{IsPermutation}
use Rattle.std.specs.declared.cmp.Reverse.{Reverse}
use Rattle.mp_estimates.specs.Lowering.{Key}
use Rattle.mp_relaxed.specs.Search.{AreFrom}
use Rattle.mp_relaxed.proofs.QueueLemmas.{least_of, popped_high, popped_low}
use Rattle.mp_relaxed.proofs.queue.Queue.pop.Goals as goal

pub returns-in-Some-clause-entry : goal.returns-in-Some-clause-entry
returns-in-Some-clause-entry c =
    let rest : List Key = map (λ (e : Reverse Key). e.0) (heap_items c.self.inside.heap) in
    subst (λ l. IsPermutation l (c.in-Some.entry ∷ (c.pop.new.self ++ rest))) c.self.view_is
    (popped_low c.self.inside.places c.pop.new.self rest c.in-Some.entry c.in-Some.ensures.entry)

pub returns-in-Some-clause-least : goal.returns-in-Some-clause-least
returns-in-Some-clause-least c =
    subst (AreFrom c.in-Some.entry.0) c.self.view_is
    (All-append (λ (k : Key). c.in-Some.entry.0 ≤ k.0) c.self.inside.places (map (λ (e : Reverse Key). e.0) (heap_items c.self.inside.heap)) c.in-Some.ensures.least
    (All-map (λ (k : Key). c.in-Some.entry.0 ≤ k.0) (λ (e : Reverse Key). e.0) (heap_items c.self.inside.heap)
    (λ i d lt.
    let high = c.self.invariant.high i d lt in
    let small = c.in-Some.ensures.small in
    omega arith)))

pub returns-clause-entry : goal.returns-clause-entry
returns-clause-entry c =
    let new : List Key = map (λ (e : Reverse Key). e.0) (heap_items c.pop-2.new.self) in
    subst (λ l. IsPermutation l (c.in_ok-entry.field-0.0 ∷ (c.pop.new.self ++ new))) c.self.view_is
    (popped_high c.self.inside.places c.pop.new.self (map (λ (e : Reverse Key). e.0) (heap_items c.self.inside.heap)) new c.in_ok-entry.field-0.0 c.in_default.ensures.none.0 c.in_default.ensures.none.1
    (IsPermutation-map (λ (e : Reverse Key). e.0) _ _ c.in_ok-entry.ensures.permutation))

pub returns-clause-least : goal.returns-clause-least
returns-clause-least c =
    let n = c.in_ok-entry.field-0.0.0 in
    let rest : List Key = map (λ (e : Reverse Key). e.0) (heap_items c.self.inside.heap) in
    subst (AreFrom n) c.self.view_is
    (subst (λ l. AreFrom n (l ++ rest)) (sym c.in_default.ensures.none.0)
    (least_of c.in_ok-entry.field-0 (heap_items c.self.inside.heap) (c.in_ok-entry.ensures.heap_order c.self.invariant.order).1))
