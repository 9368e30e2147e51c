use Rattle.std.proofs.Common.{sym, subst}
use Rattle.std.specs.List.Sorted.{IsStrictlyIncreasing}
use Rattle.mp_audit.proofs.flat_certificate.add_facts.Goals as goal

pub push-requires : goal.push-requires
push-requires c = record { rising = subst IsStrictlyIncreasing (sym c.as_slice.ensures.numbers) c.as_slice.ensures.rising }
