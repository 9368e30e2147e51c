use Rattle.std.proofs.Common.{All, subst}
use Rattle.std.specs.List.Sorted.{IsStrictlyIncreasing}
use Rattle.mp_certificates.proofs.formed.is_formed.Goals as goal

pub returns : goal.returns
returns c = record {
  agent = c.is_numbered.ensures;
  publics = c.rises.ensures;
  privates = subst (All IsStrictlyIncreasing) c.as_slice.ensures c.all_rise.ensures;
}
