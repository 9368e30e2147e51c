-- A fact in numbers is told alike by two factors that are the same in numbers: it is initial for both, and where it is
-- public it has the same text.
use Rattle.std.proofs.Common.{◌≡◌, ℕ, Bool, true, false, not, None, if◌then◌else◌, refl, sym, ap, ◌∙◌}
use Rattle.mp_forms.specs.declared.factor.Factor.{Factor}
use Rattle.mp_lifting.specs.declared.view.OpenView.{OpenView}
use Rattle.mp_lifting.specs.Factors.{lifted_factor}
use Rattle.mp_lifting.specs.Texts.{signed_text}
use Rattle.mp_lifted.specs.Start.{is_private}
use Rattle.mp_ground_facts.specs.declared.fact.GroundFact.{GroundFact}
use Rattle.mp_ground_facts.specs.Facts.{atom_of, is_initial}
use Rattle.mp_ground_laws.specs.Checked.{IsChecked}
use Rattle.mp_ground_laws.specs.Numbered.{signed_fact, IsOfFactor}
use Rattle.mp_ground_laws.proofs.Starts.{public_is}
use Rattle.mp_views.specs.Public.{is_public}
use Rattle.mp_stands.specs.Translation.{AreAlike}
use Rattle.mp_stands.proofs.SameStarts.{public_names, same_start}

by_sign : (x : GroundFact) (lifted other : Bool) → lifted ≡ other
    → (if x.is_complement then not lifted else lifted) ≡ (if x.is_complement then not other else other)
by_sign x lifted other h = ap (λ b. if x.is_complement then not b else b) h

denied : (b : Bool) → not b ≡ true → b ≡ false
denied true h = sym h
denied false h = refl

module _ (view : OpenView) (f g : Factor) (alike : AreAlike view f g) where
  pub same_text : (me : ℕ) (x : GroundFact) → IsOfFactor f view x → is_public (signed_fact me f x) ≡ true
      → signed_text (signed_fact me g x) ≡ signed_text (signed_fact me f x)
  same_text me x is public =
      let names =
      public_names view f g alike (atom_of x) is.range
      (denied (is_private (lifted_factor f view) (atom_of x)) (public_is me f view (atom_of x) is.range ∙ public)) in
      λ i. signed_text (record {
        positive = not x.is_complement;
        fact = record { owner = None; predicate = names.predicate i; args = names.args i };
      })

  pub same_initial : IsChecked f → IsChecked g → (x : GroundFact) → IsOfFactor f view x
      → is_initial (lifted_factor g view) x ≡ is_initial (lifted_factor f view) x
  same_initial of_f of_g x is =
      by_sign x _ _ (same_start view f g alike of_f of_g (atom_of x) is.range)
