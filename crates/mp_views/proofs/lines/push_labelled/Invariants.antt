use Rattle.mp_views.proofs.Basics.{◌≡◌, ◌++◌, take, text_of_lines}
use Rattle.mp_views.specs.Lines.{labelled}
use Rattle.mp_views.proofs.lines.push_labelled.Given as goal

abbrev pub invariant-loop-name : goal.invariant-loop-name
invariant-loop-name l = l.text ≡ l.fn.text ++ text_of_lines (labelled l.label (take l.name-index l.names))
