use Rattle.mp_split.proofs.Basics.{◌≡◌, ◌++◌, take}
use Rattle.mp_split.proofs.common.add_copies.Given as goal

abbrev pub invariant-loop-text : goal.invariant-loop-text
invariant-loop-text l = l.out.items ≡ l.initial.out.items ++ take l.text-index l.texts
