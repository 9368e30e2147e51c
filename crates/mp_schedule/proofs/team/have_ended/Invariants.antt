use Rattle.std.proofs.Common.{◌≡◌, drop, map, not}
use Rattle.std.specs.List.{list_all}
use Rattle.mp_machine.specs.AgentRecord.{is_going}
use Rattle.mp_schedule.proofs.team.have_ended.Given as goal

abbrev pub invariant-loop-machine : goal.invariant-loop-machine
invariant-loop-machine g l =
    list_all (λ r. not (is_going r.ending)) (map (λ m. m.done) (drop l.machine-index l.machines))
    ≡ list_all (λ r. not (is_going r.ending)) (map (λ m. m.done) l.machines)
