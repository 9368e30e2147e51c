use Rattle.mp_grounder.proofs.Basics.{◌≡◌, ◌++◌, map, take, folded, name_at}
use Rattle.mp_views.specs.Lines.{spaced}
use Rattle.mp_grounder.proofs.texts.push_names.Given as goal

abbrev pub invariant-loop-number : goal.invariant-loop-number
invariant-loop-number l =
    folded l.text.items ≡ folded l.fn.text.items ++ spaced (map (name_at l.names) (take l.number-index l.numbers))
