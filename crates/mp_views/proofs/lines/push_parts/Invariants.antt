use Rattle.mp_views.proofs.Basics.{◌≡◌, ◌++◌, map, take, part_line, text_of_lines}
use Rattle.mp_views.proofs.lines.push_parts.Given as goal

abbrev pub invariant-loop-part : goal.invariant-loop-part
invariant-loop-part l = l.text ≡ l.fn.text ++ text_of_lines (map part_line (take l.part-index l.parts))
