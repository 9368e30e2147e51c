use Rattle.std.proofs.Common.{◌≡◌, ◌+◌, drop}
use Rattle.mp_audit.specs.Failures.{all_entry_failures, entry_failures}
use Rattle.mp_audit.specs.States.{HasSizes}
use Rattle.mp_audit.specs.Tables.{AreActionSets}
use Rattle.mp_audit.proofs.FirstLemmas.{from_place}
use Rattle.mp_audit.proofs.entries.first_failing_entry.Given as goal

abbrev pub invariant-loop-place : goal.invariant-loop-place
invariant-loop-place l = record {
  state : HasSizes l.known.tasks.now l.state;
  actions : AreActionSets l.known.tasks.now l.found.items;
  reached : HasSizes l.known.tasks.now l.reached;
  left : from_place (entry_failures l.known.tasks.now l.known.bounds.now.entries) (l.place + 1) (drop l.place l.known.bounds.now.entries)
      ≡ all_entry_failures l.known.tasks.now l.known.bounds.now.entries;
}
