use Rattle.std.proofs.Common.{◌≡◌, [], map, take}
use Rattle.std.specs.List.{enumerate_from}
use Rattle.mp_world.specs.Joint.{private_facts}
use Rattle.mp_schedule.specs.Machines.{tasks_of, world_of}
use Rattle.mp_audit.specs.Audited.{set_of}
use Rattle.mp_audit.specs.Fits.{PrivatesFit}
use Rattle.mp_certify.proofs.facts.private_lists.Given as goal

abbrev pub invariant-loop-place : goal.invariant-loop-place
invariant-loop-place g l = record {
  facts : map set_of l.lists ≡ map (private_facts (world_of l.machines []) l.me l.mine.members) (enumerate_from 1 (take l.place l.tags));
  fits : PrivatesFit (tasks_of (take l.place l.machines)) l.lists;
}
