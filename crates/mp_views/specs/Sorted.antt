-- Lists in an order, and texts in the order of their bytes.
use Rattle.std.specs.Prelude.{List, map}
use Rattle.std.specs.Ordering.{nat_cmp}
use Rattle.std.specs.declared.cmp.Ordering.{Ordering}
use Rattle.std.specs.Cmp.Lexicographic.{slice_cmp}
use Rattle.std.specs.FinMap.{from_entries, keys}
use Rattle.mp_joint.specs.Fact.{Text}

-- an entry of a map that has nothing at its keys
abbrev pub with_nothing : {K : Type 0} → K → K × Unit {0}
with_nothing k = (k, tt)

-- The items of a list in an order, each once: the keys of a map that has each of them. Of items that tie the last one
-- stands for all.
unfoldable pub sorted_by : {K : Type 0} → (K → K → Ordering) → List K → List K
sorted_by cmp items = keys (from_entries {R = cmp} (map with_nothing items))

-- the texts of a list in the order of their bytes, each once
abbrev pub sorted_once : List Text → List Text
sorted_once texts = sorted_by (slice_cmp nat_cmp) texts
