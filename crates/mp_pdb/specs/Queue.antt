-- The heap of a queue as the list of its entries.
use Rattle.std.specs.Prelude.{List, map}
use Rattle.std.specs.BinaryHeap.{heap_items}
use Rattle.std.specs.declared.cmp.Reverse.{Reverse}
use Rattle.mp_pdb.specs.declared.queue.Queue.TheInside.{Inside}
use Rattle.mp_estimates.specs.Lowering.{Key}

abbrev pub queue_entries : Inside → List Key
queue_entries q = map (λ (e : Reverse Key). e.0) (heap_items q.heap)
