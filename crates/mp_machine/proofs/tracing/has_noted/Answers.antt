use Rattle.std.proofs.Common.{ap, ◌∙◌}
use Rattle.std.specs.Prelude.{not}
use Rattle.mp_machine.proofs.StepLemmas.{fits_none}
use Rattle.mp_machine.proofs.tracing.has_noted.Goals as goal

pub returns : goal.returns
returns c = ap not (c.fits.ensures.fits ∙ fits_none c.args.trail.now)
