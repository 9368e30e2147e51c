use Rattle.mp_typing.proofs.Basics.{◌≡◌, range_with_len}
use Rattle.mp_typing.proofs.listed.all_below.Given as goal

abbrev pub invariant-loop-number : goal.invariant-loop-number
invariant-loop-number l = l.list ≡ range_with_len 0 l.number
