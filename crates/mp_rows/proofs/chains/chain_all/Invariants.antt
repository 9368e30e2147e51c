use Rattle.std.proofs.Common.{◌≡◌, length}
use Rattle.mp_rows.specs.Chains.{places, AreChained}
use Rattle.mp_rows.proofs.chains.chain_all.Given as goal

abbrev pub invariant-loop-number : goal.invariant-loop-number
invariant-loop-number l = record {
  chained : AreChained l.heads.items l.links.items l.number;
  heads : length l.heads.items ≡ length l.initial.heads.items;
  links : length l.links.items ≡ length l.initial.links.items;
  places : places l.links.items ≡ places l.initial.links.items;
}
