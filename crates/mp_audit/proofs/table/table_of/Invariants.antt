use Rattle.std.proofs.Common.{◌≡◌, length}
use Rattle.mp_audit.specs.Chains.{AreChained}
use Rattle.mp_audit.specs.States.{HasSizes}
use Rattle.mp_audit.proofs.TableLemmas.{repeats_from}
use Rattle.mp_audit.proofs.table.table_of.Given as goal

abbrev pub invariant-loop-place : goal.invariant-loop-place
invariant-loop-place l = record {
  chained : AreChained l.tasks l.bounds.entries l.chains;
  count : length l.chains.before.items ≡ l.place;
  sizes : HasSizes l.tasks l.state;
  left : repeats_from l.bounds.entries l.place ≡ repeats_from l.bounds.entries 0;
}
