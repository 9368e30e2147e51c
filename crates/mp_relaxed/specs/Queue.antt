-- The parts of a queue as the list of its entries.
use Rattle.std.specs.Prelude.{◌≤◌, List, ◌++◌, All, map}
use Rattle.std.specs.BinaryHeap.{IsHeap, heap_items}
use Rattle.std.specs.Ordering.{nat_cmp, ordering_then}
use Rattle.std.specs.declared.cmp.Ordering.{Ordering}
use Rattle.std.specs.declared.cmp.Reverse.{Reverse}
use Rattle.mp_relaxed.specs.declared.queue.Queue.TheInside.{Inside}
use Rattle.mp_estimates.specs.Lowering.{Key}

-- how the heap compares entries: a greater one has a lower number
abbrev pub from_low : Reverse Key → Reverse Key → Ordering
from_low a b = ordering_then (nat_cmp b.0.0 a.0.0) (nat_cmp b.0.1 a.0.1)

abbrev pub queue_entries : Inside → List Key
queue_entries q = q.places ++ map (λ (e : Reverse Key). e.0) (heap_items q.heap)

-- the heap is in its order, and its numbers are too great for the places
pub record IsInOrder (q : Inside) : Type 0 where
  pub order : IsHeap from_low (heap_items q.heap)
  pub high : All (λ (e : Reverse Key). 1024 ≤ e.0.0) (heap_items q.heap)
