use Rattle.std.proofs.Common.{◌≡◌, ◌+◌, ◌-◌, length}
use Rattle.mp_task.specs.Projected.{projected}
use Rattle.mp_pdb.specs.Pattern.{grown, pattern_of}
use Rattle.mp_pdb.proofs.operators.pattern_for.Given as goal

abbrev pub invariant-grow : goal.invariant-grow
invariant-grow l = record {
  size : l.pattern.size ≡ l.task.publics + l.task.privates;
  whole : grown (projected l.task).operators (12 - length l.pattern.facts) l.pattern.facts ≡ pattern_of (projected l.task);
}

abbrev pub decreases-grow : goal.decreases-grow
decreases-grow l = 12 - length l.pattern.facts
