use Rattle.mp_views.proofs.Basics.{◌≡◌, ◌++◌, take, spaced}
use Rattle.mp_views.proofs.lines.push_spaced.Given as goal

abbrev pub invariant-loop-name : goal.invariant-loop-name
invariant-loop-name l = l.text ≡ l.fn.text ++ (l.label ++ spaced (take l.name-index l.names))
