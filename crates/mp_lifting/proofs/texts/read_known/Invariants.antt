use Rattle.mp_lifting.proofs.Basics.{◌≡◌, take, known_atoms}
use Rattle.mp_lifting.proofs.texts.read_known.Given as goal

abbrev pub invariant-loop-text : goal.invariant-loop-text
invariant-loop-text l = l.made ≡ known_atoms l.vocabulary (take l.text-index l.texts)
