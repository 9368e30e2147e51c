use Rattle.mp_views.proofs.Basics.{◌≡◌, ◌++◌, map, reverse, vec_len}
use Rattle.mp_views.proofs.PartLemmas.{lined}
use Rattle.mp_views.proofs.parts.with_lines.Given as goal

abbrev pub invariant-loop-part : goal.invariant-loop-part
invariant-loop-part l = l.lined.items ++ map lined (reverse l.left.items) ≡ map lined (reverse l.fn.parts.items)

abbrev pub decreases-loop-part : goal.decreases-loop-part
decreases-loop-part l = vec_len l.left
