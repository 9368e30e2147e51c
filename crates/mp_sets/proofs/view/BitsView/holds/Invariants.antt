use Rattle.std.proofs.Common.{◌≡◌, true, take}
use Rattle.mp_sets.specs.Numbers.{holds}
use Rattle.mp_sets.proofs.view.BitsView.holds.Given as goal

abbrev pub invariant-loop-x : goal.invariant-loop-x
invariant-loop-x l = holds l.self.members (take l.x-index l.x-items) ≡ true
