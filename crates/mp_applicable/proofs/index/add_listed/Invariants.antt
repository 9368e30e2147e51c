use Rattle.std.proofs.Common.{◌≡◌, take}
use Rattle.mp_applicable.specs.Applicable.{is_applicable}
use Rattle.mp_applicable.specs.Finding.{AreAdded}
use Rattle.mp_applicable.proofs.index.add_listed.Given as goal

abbrev pub invariant-loop-number : goal.invariant-loop-number
invariant-loop-number l = record {
  size : l.found.size ≡ l.fn.found.size;
  added : AreAdded (is_applicable l.task.acts l.publics.members l.privates.members) (take l.number-index l.list) l.fn.found.members l.found.members;
}
