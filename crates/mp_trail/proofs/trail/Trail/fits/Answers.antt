use Rattle.std.proofs.Common.{◌≡◌, ◌-◌, List, Some, length, sym, ap, subst, ◌∙◌}
use Rattle.std.specs.Prelude.{slice_get}
use Rattle.mp_trail.specs.declared.steps.Noted.{Noted}
use Rattle.mp_trail.specs.Share.{fits}
use Rattle.mp_trail.proofs.ShareLemmas.{last_tells}
use Rattle.mp_trail.proofs.trail.Trail.fits.Goals as goal

pub returns-in-Some-clause-fits : goal.returns-in-Some-clause-fits
returns-in-Some-clause-fits c =
    let found : slice_get c.self.inside.noted.items (length c.self.inside.noted.items - 1) ≡ Some c.in-Some.last.now =
    subst (λ (xs : List Noted). slice_get xs (length xs - 1) ≡ Some c.in-Some.last.now) c.deref.ensures.value (sym c.in-Some.ensures.value) in
    last_tells c.args.length c.self.inside.noted.items c.in-Some.last.now c.self.invariant found
    ∙ ap (fits c.args.length) c.self.view_is
