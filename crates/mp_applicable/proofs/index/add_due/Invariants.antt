use Rattle.std.proofs.Common.{◌≡◌, ◌≤◌, ◌-◌}
use Rattle.mp_applicable.specs.Applicable.{is_applicable}
use Rattle.mp_applicable.proofs.FindingLemmas.{AreAddedBelow}
use Rattle.mp_applicable.proofs.index.add_due.Given as goal

abbrev pub invariant-loop-fact : goal.invariant-loop-fact
invariant-loop-fact l = record {
  inside : l.from ≤ l.facts.size;
  size : l.found.size ≡ l.fn.found.size;
  added : AreAddedBelow (is_applicable l.task.acts l.publics.members l.privates.members) l.lists l.facts.members l.from l.fn.found.members l.found.members;
}

abbrev pub decreases-loop-fact : goal.decreases-loop-fact
decreases-loop-fact l = l.facts.size - l.from
