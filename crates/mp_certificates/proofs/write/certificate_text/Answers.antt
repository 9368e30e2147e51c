use Rattle.std.proofs.Common.{All, subst}
use Rattle.mp_certificates.specs.Accepted.{IsFormed}
use Rattle.mp_certificates.proofs.write.certificate_text.Goals as goal

pub returns-clause-read : goal.returns-clause-read
returns-clause-read c = λ tasks agents fits. record {
  is = c.in_ok-text.ensures;
  certificate_fits = record { formed = subst (All IsFormed) c.as_slice.ensures c.are_formed.ensures; agents = agents; fits = fits };
}
