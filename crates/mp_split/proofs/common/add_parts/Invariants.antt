use Rattle.mp_split.proofs.Basics.{◌≡◌, ◌++◌, map, take, far_in}
use Rattle.mp_split.proofs.common.add_parts.Given as goal

abbrev pub invariant-loop-part : goal.invariant-loop-part
invariant-loop-part l = l.out ≡ l.initial.out ++ map (far_in l.table l.by) (take l.part-index l.parts)
