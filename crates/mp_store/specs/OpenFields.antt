-- The parts of an open list as the list of its ranks.
use Rattle.std.specs.Prelude.{◌≡◌, ℕ, ◌<◌, Bool, true, false, List, ◌++◌, length, map, slice_index_or, Option, Some, None, if◌then◌else◌}
use Rattle.std.specs.BinaryHeap.{IsHeap, heap_items}
use Rattle.std.specs.declared.cmp.Ordering.{Ordering}
use Rattle.std.specs.declared.cmp.Reverse.{Reverse}
use Rattle.mp_store.specs.declared.open_list.OpenList.TheInside.{Inside}
use Rattle.mp_store.specs.declared.rank.Rank.{Rank}
use Rattle.mp_store.specs.Ranks.{is_sooner, rank_cmp}

-- how the heap compares ranks: a greater one comes sooner
abbrev pub from_first : Reverse Rank → Reverse Rank → Ordering
from_first a b = rank_cmp b.0 a.0

-- the ranks of a heap
abbrev pub listed : List (Reverse Rank) → List Rank
listed items = map (λ (q : Reverse Rank). q.0) items

-- no rank stands behind a later one
abbrev pub AreInOrder : List Rank → Type 0
AreInOrder ranks = (i j : ℕ) (d : Rank) → i < j → j < length ranks → is_sooner (slice_index_or ranks j d) (slice_index_or ranks i d) ≡ false

-- whether there is a rank, and it comes before the other one, if there is that
abbrev pub is_ahead : Option Rank → Option Rank → Bool
is_ahead None other = false
is_ahead (Some rank) None = true
is_ahead (Some rank) (Some other) = is_sooner rank other

abbrev pub sooner_of : Option Rank → Option Rank → Option Rank
sooner_of rank other = if is_ahead rank other then rank else other

abbrev pub listed_ranks : Inside → List Rank
listed_ranks t = t.in_order.items ++ listed (heap_items t.heap)

pub record IsOpenList (t : Inside) : Type 0 where
  pub in_order : AreInOrder t.in_order.items
  pub heaped : IsHeap from_first (heap_items t.heap)
