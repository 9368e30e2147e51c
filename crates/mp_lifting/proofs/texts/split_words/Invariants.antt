use Rattle.mp_lifting.proofs.Basics.{◌≡◌, ◌++◌, map, length, slice_split}
use Rattle.mp_lifting.proofs.Words.{is_space}
use Rattle.mp_lifting.proofs.texts.split_words.Given as goal

abbrev pub invariant-loop-word : goal.invariant-loop-word
invariant-loop-word l = map (λ w. w.now) l.words.items ++ slice_split is_space l.rest ≡ slice_split is_space l.text

abbrev pub decreases-loop-word : goal.decreases-loop-word
decreases-loop-word l = length l.rest
