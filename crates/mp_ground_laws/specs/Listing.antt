-- Lists of some items in an order.
use Rattle.std.specs.Prelude.{◌≡◌, Bool, true, List, ◌↔◌, Contains}
use Rattle.std.specs.declared.cmp.Ordering.{Ordering}
use Rattle.std.specs.List.Sorted.{IsStrictlySortedBy}

-- those of some items that pass a test, each once, in an order
pub record IsListing {X : Type 0} (order : X → X → Ordering) (test : X → Bool) (some listed : List X) : Type 0 where
  pub rising : IsStrictlySortedBy order listed
  pub exact : (x : X) → Contains listed x ↔ (Contains some x × (test x ≡ true))
