-- Public parts of actions in the order of their lines.
use Rattle.std.specs.Prelude.{List}
use Rattle.std.specs.Ordering.{nat_cmp}
use Rattle.std.specs.declared.cmp.Ordering.{Ordering}
use Rattle.std.specs.Cmp.Lexicographic.{slice_cmp}
use Rattle.mp_views.specs.declared.view.Part.{Part}
use Rattle.mp_views.specs.Lines.{part_line}
use Rattle.mp_views.specs.Sorted.{sorted_by}

-- parts are in the order of their lines
abbrev pub part_cmp : Part → Part → Ordering
part_cmp a b = slice_cmp nat_cmp (part_line a) (part_line b)

-- the parts of a list in the order of their lines, each line once
abbrev pub sorted_parts : List Part → List Part
sorted_parts parts = sorted_by part_cmp parts
