use Rattle.mp_lifting.proofs.Basics.{◌≡◌, [], map, drop}
use Rattle.mp_lifting.proofs.Known.{numbered}
use Rattle.mp_lifting.proofs.texts.numbers_of.Given as goal

-- what the names that are left give, behind the numbers so far, is what all give
abbrev pub invariant-loop-word : goal.invariant-loop-word
invariant-loop-word l =
    numbered l.table l.numbers (map (λ w. w.now) (drop l.word-index l.words)) ≡ numbered l.table [] (map (λ w. w.now) l.words)
