-- Where a small list keeps its items. No public clause cites this module.
use Rattle.std.specs.Prelude.{List, []}
use Rattle.mp_list.specs.declared.small_list.Kept.{Kept}
use Rattle.mp_list.specs.declared.small_list.Kept.TheVariants.{Empty, One, Many}

abbrev pub items_of : {X : Type 0} → Kept X → List X
items_of Empty = []
items_of (One one) = one
items_of (Many items) = items.value.items
