use Rattle.std.proofs.Common.{◌≡◌, ◌++◌, length}
use Rattle.mp_stamps.specs.Lists.{entries}
use Rattle.mp_stamps.specs.Turns.{left_behind, up_to}
use Rattle.mp_stamps.proofs.moving.move_up_to.Given as goal

-- what is taken of the rest is still to come, and what is left behind of it is left behind of all
abbrev pub invariant-entries : goal.invariant-entries
invariant-entries l = record {
  log : l.log ++ entries (up_to l.last l.rest) ≡ l.initial.log ++ entries (up_to l.last l.initial.rest);
  rest : left_behind l.last l.rest ≡ left_behind l.last l.initial.rest;
}

abbrev pub decreases-entries : goal.decreases-entries
decreases-entries l = length l.rest
