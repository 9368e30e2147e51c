use Rattle.std.proofs.Common.{◌≡◌, ◌++◌, length, drop}
use Rattle.mp_team.specs.Machines.{machines_in}
use Rattle.mp_team.proofs.ending.machines_of.Given as goal

abbrev pub invariant-loop-at : goal.invariant-loop-at
invariant-loop-at g l = record {
  many : length l.nodes ≡ l.count;
  made : l.machines.items ++ machines_in (drop l.at l.nodes) ≡ machines_in l.fn.nodes;
}
