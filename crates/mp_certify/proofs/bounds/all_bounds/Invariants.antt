use Rattle.std.proofs.Common.{◌≡◌, All, [], flat_map, map, take}
use Rattle.mp_machine.specs.Machine.{AgentMachine}
use Rattle.mp_schedule.specs.Machines.{tasks_of, world_of}
use Rattle.mp_audit.specs.LastCut.{said_by}
use Rattle.mp_certify.specs.Latest.{latest_bounds_of}
use Rattle.mp_certify.specs.Team.{IsOfTeam}
use Rattle.mp_certify.proofs.bounds.all_bounds.Given as goal

abbrev pub invariant-loop-place : goal.invariant-loop-place
invariant-loop-place g l = record {
  said : map said_by l.bounds ≡ flat_map (latest_bounds_of (world_of l.machines []) l.cost) (map (λ (m : AgentMachine). m.done) (take l.place l.machines));
  team : All (IsOfTeam (tasks_of l.machines)) l.bounds;
}
