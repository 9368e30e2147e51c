use Rattle.mp_split.proofs.Basics.{◌≡◌, take, of_others}
use Rattle.mp_split.proofs.task.others_of.Given as goal

abbrev pub invariant-loop-part : goal.invariant-loop-part
invariant-loop-part l = l.out ≡ of_others l.me (take l.part-index l.parts)
