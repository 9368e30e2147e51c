use Rattle.mp_typing.proofs.Basics.{◌≡◌, take, HasObjects}
use Rattle.mp_typing.proofs.ByTypeLemmas.{shown}
use Rattle.mp_typing.proofs.hierarchy.objects_by_type.Given as goal

abbrev pub invariant-loop-object : goal.invariant-loop-object
invariant-loop-object l = record {
  counted : l.place ≡ l.object-index;
  listed : HasObjects (shown (take l.object-index l.objects)) l.listed.entries;
}
