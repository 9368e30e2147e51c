-- What is said by certificates whose entries take little memory.
use Rattle.mp_audit.specs.declared.certificate.Certificate.{Certificate}
use Rattle.mp_audit.specs.declared.flat_bounds.FlatCertificate.{FlatCertificate}

-- the certificate: its cost, and its entries in their order
abbrev pub certificate_of : FlatCertificate → Certificate
certificate_of c = record { cost = c.cost; bounds = c.bounds.entries }
