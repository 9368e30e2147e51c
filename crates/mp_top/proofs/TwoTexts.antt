-- From what was fetched of two first files, one after the other, to what they hold.
use Rattle.std.proofs.Common.{◌≡◌, ◌∙◌, ℕ, [], ◌∷◌, Option, sym, subst}
use Rattle.mp_files.specs.Cause.{seen_source}
use Rattle.mp_joint.specs.Fact.{Text}
use Rattle.mp_outside.specs.Acts.{FileAsked}
use Rattle.mp_outside.specs.Source.{Files as Held}
use Rattle.mp_top.specs.FirstText.{AreTextsOf, HaveTexts, IsTextOf}
use Rattle.mp_top.proofs.Decided.{seen_later}

module _ {S : Type 0} (held : S → Option Held) (faults : S → ℕ) (at : S → Option Text) (old mid after new : S)
    (same_held : held mid ≡ held old) (same_faults : faults mid ≡ faults old) where
  -- the second file, as seen before the first one was fetched
  pub seen_second : seen_source held faults at mid new ≡ seen_source held faults at old new
  seen_second = seen_later held faults at old mid new same_held same_faults

  -- and what comes behind both
  pub seen_behind : held after ≡ held mid → faults after ≡ faults mid → seen_source held faults at after new ≡ seen_source held faults at old new
  seen_behind also_held also_faults = seen_later held faults at mid after new also_held also_faults ∙ seen_second

  module _ (file : FileAsked) (text : Text) (is : IsTextOf (held old) file text) where
    -- the first file fits where the second one is fetched
    pub first_fits : HaveTexts (held mid) (file ∷ [])
    first_fits = (text ∷ [], (subst (λ h. IsTextOf h file text) (sym same_held) is, tt))

    -- both fit
    pub both_fit : (second : FileAsked) (other : Text) → IsTextOf (held mid) second other → AreTextsOf (held old) (file ∷ second ∷ []) (text ∷ other ∷ [])
    both_fit second other also = (is, (subst (λ h. IsTextOf h second other) same_held also, tt))
