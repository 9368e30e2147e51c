use Rattle.std.proofs.Common.{refl}
use Rattle.mp_audit.specs.Failures.{verdict_on}
use Rattle.mp_audit.proofs.HoldsLemmas.{holds_exactly}
use Rattle.mp_audit.proofs.laws.failures_are_what_is_wrong.Goals as goal

pub returns : goal.returns
returns c = λ tasks certificate are. holds_exactly tasks certificate (verdict_on tasks certificate) are refl
