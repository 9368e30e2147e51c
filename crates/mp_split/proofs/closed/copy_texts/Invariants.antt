use Rattle.mp_split.proofs.Basics.{◌≡◌, take, texts_at}
use Rattle.mp_split.proofs.closed.copy_texts.Given as goal

abbrev pub invariant-loop-place : goal.invariant-loop-place
invariant-loop-place l = l.texts ≡ texts_at l.table (take l.place-index l.places)
