use Rattle.std.proofs.Common.{◌≡◌, map, take}
use Rattle.mp_schedule.proofs.found.shares.Given as goal

abbrev pub invariant-loop-machine : goal.invariant-loop-machine
invariant-loop-machine g l = l.shares ≡ map (λ m. m.done.share) (take l.machine-index l.machines)
