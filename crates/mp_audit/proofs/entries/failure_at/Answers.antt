use Rattle.std.proofs.Common.{◌≡◌, slice_get, sym, subst, ◌∙◌}
use Rattle.std.proofs.lemmas.Option.{same_Some}
use Rattle.mp_audit.specs.declared.certificate.Bound.{Bound}
use Rattle.mp_audit.specs.Failures.{entry_failures}
use Rattle.mp_audit.specs.Fits.{BoundFits}
use Rattle.mp_audit.proofs.entries.failure_at.Goals as goal

pub set_to-requires-clause-fits : goal.set_to-requires-clause-fits
set_to-requires-clause-fits c =
    let d = c.args.known.now in
    subst (BoundFits d.tasks.now) (sym c.entry-bound.ensures.is) (c.requires.ready.fits c.args.place c.entry-bound.result c.requires.inside)

pub returns-clause-first : goal.returns-clause-first
returns-clause-first c = λ b is.
    let d = c.args.known.now in
    let same = same_Some _ _ (sym c.entry-bound.ensures.entry ∙ is) in
    subst (λ (x : Bound). c.entry_failure.result ≡ slice_get (entry_failures d.tasks.now d.bounds.now.entries c.args.entry x) 0) same c.entry_failure.ensures.first
