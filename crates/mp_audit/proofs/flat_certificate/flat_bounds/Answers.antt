use Rattle.std.proofs.Common.{sym, ap, subst, ◌∙◌}
use Rattle.mp_audit.specs.Fits.{BoundFits}
use Rattle.mp_audit.specs.Flat.{FlatParts}
use Rattle.mp_audit.proofs.FitLemmas.{fits_length}
use Rattle.mp_audit.proofs.flat_certificate.flat_bounds.Goals as goal

pub with_entry-requires : goal.with_entry-requires
with_entry-requires c =
    let l = c.loop-bound in
    let tasks = c.args.tasks.now in
    let b = c.bound-item.result in
    let fit = subst (BoundFits tasks) (sym c.bound-item.is) (c.requires l.bound-index b c.loop-bound-test.true) in
    fits_length tasks b.privates fit.privates ∙ sym (ap (λ (p : FlatParts). p.agents) l.invariant)
