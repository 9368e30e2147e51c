use Rattle.std.proofs.Common.{◌≡◌, take}
use Rattle.std.specs.FinSet as set
use Rattle.mp_sets.proofs.bits.Bits.insert_all.Given as goal

abbrev pub invariant-loop-x : goal.invariant-loop-x
invariant-loop-x l = l.self ≡ record { size = l.initial.self.size; members = set.union l.initial.self.members (set.from_list (take l.x-index l.x-items)) }
