-- The parties of changed views.
use Rattle.std.proofs.Common.{◌≡◌, ◌≢◌, ℕ, zero, suc, ◌-◌, ◌⊎◌, inl, inr, List, [], ◌∷◌, map, get_or, set, sym, refl, ap, ◌∙◌, arith, get_or-set_same, get_or-set_other, Some, None}
use Rattle.std.specs.Prelude.{Option}
use Rattle.std.proofs.lemmas.Option.{none-some}
use mathlib.Core.Logic.{dite}
use native.Mathlib.Decide.{ℕ_discrete}
use lib.ListN.{length-map}
use Rattle.mp_post_rule.specs.Views.{either_each, either_party, no_party, party_in}
use Rattle.mp_post_rule.specs.declared.view.Party.{Party}
use Rattle.mp_post_rule.proofs.Places.{present}

-- one party is another one, or none
pub with_at : (a : ℕ) (ps : List (Option Party)) (p : Party) (q : Option Party) (agent : ℕ) → party_in ps a ≡ Some p
    → ((agent ≡ a) × (party_in (set ps (a - 1) q) agent ≡ q)) ⊎ ((agent ≢ a) × (party_in (set ps (a - 1) q) agent ≡ party_in ps agent))
with_at zero ps p q agent has = absurd (none-some p has)
with_at (suc n) ps p q zero has = inr ((λ e. omega arith), refl)
with_at (suc n) ps p q (suc k) has = dite (ℕ_discrete k n)
    (λ same. inl (
      ap suc same,
      ap (λ i. get_or (set ps i q) k None) (omega arith)
          ∙ (ap (λ i. get_or (set ps n q) i None) same ∙ get_or-set_same ps n q None (present ps n p has)),
    ))
    (λ other. inr (
      (λ e. other (omega arith)),
      ap (λ i. get_or (set ps i q) k None) (omega arith)
          ∙ get_or-set_other ps n k q None other,
    ))

nowhere : (l : List (Option Party)) (k : ℕ) → get_or (map no_party l) k None ≡ None
nowhere [] k = refl
nowhere (x ∷ xs) zero = refl
nowhere (x ∷ xs) (suc k) = nowhere xs k

-- one party alone
pub alone_at : (a : ℕ) (ps : List (Option Party)) (p : Party) (agent : ℕ) → party_in ps a ≡ Some p
    → ((agent ≢ a) × (party_in (set (map no_party ps) (a - 1) (party_in ps a)) agent ≡ None))
    ⊎ ((agent ≡ a) × (party_in (set (map no_party ps) (a - 1) (party_in ps a)) agent ≡ Some p))
alone_at zero ps p agent has = absurd (none-some p has)
alone_at (suc n) ps p zero has = inl ((λ e. omega arith), refl)
alone_at (suc n) ps p (suc k) has = dite (ℕ_discrete k n)
    (λ same. inr (
      ap suc same,
      ap (λ i. get_or (set (map no_party ps) i (party_in ps (suc n))) k None) (omega arith)
          ∙ (ap (λ i. get_or (set (map no_party ps) n (party_in ps (suc n))) i None) same
          ∙ (get_or-set_same (map no_party ps) n (party_in ps (suc n)) None
          (let many = length-map ps no_party in let low = present ps n p has in omega arith) ∙ has)),
    ))
    (λ other. inl (
      (λ e. other (omega arith)),
      ap (λ i. get_or (set (map no_party ps) i (party_in ps (suc n))) k None) (omega arith)
          ∙ (get_or-set_other (map no_party ps) n k (party_in ps (suc n)) None other ∙ nowhere ps k),
    ))

-- the parties of two seats
either_or : (p q : Option Party) (r : Party) → either_party p q ≡ Some r → (p ≡ Some r) ⊎ (q ≡ Some r)
either_or (Some p) q r e = inl e
either_or None q r e = inr e

each_at : (ps qs : List (Option Party)) (k : ℕ) (r : Party) → get_or (either_each ps qs) k None ≡ Some r
    → (get_or ps k None ≡ Some r) ⊎ (get_or qs k None ≡ Some r)
each_at [] qs k r e = inr e
each_at (p ∷ ps) [] k r e = inl e
each_at (p ∷ ps) (q ∷ qs) zero r e = either_or p q r e
each_at (p ∷ ps) (q ∷ qs) (suc k) r e = each_at ps qs k r e

pub either_at : (ps qs : List (Option Party)) (agent : ℕ) (r : Party) → party_in (either_each ps qs) agent ≡ Some r
    → (party_in ps agent ≡ Some r) ⊎ (party_in qs agent ≡ Some r)
either_at ps qs zero r e = absurd (none-some r e)
either_at ps qs (suc k) r e = each_at ps qs k r e

first_one : (p q : Option Party) (r : Party) → p ≡ Some r → either_party p q ≡ Some r
first_one (Some p) q r e = e
first_one None q r e = absurd (none-some r e)

first_each : (ps qs : List (Option Party)) (k : ℕ) (r : Party) → get_or ps k None ≡ Some r → get_or (either_each ps qs) k None ≡ Some r
first_each [] qs k r e = absurd (none-some r e)
first_each (p ∷ ps) [] k r e = e
first_each (p ∷ ps) (q ∷ qs) zero r e = first_one p q r e
first_each (p ∷ ps) (q ∷ qs) (suc k) r e = first_each ps qs k r e

pub first_at : (ps qs : List (Option Party)) (agent : ℕ) (r : Party) → party_in ps agent ≡ Some r → party_in (either_each ps qs) agent ≡ Some r
first_at ps qs zero r e = e
first_at ps qs (suc k) r e = first_each ps qs k r e

second_one : (p q : Option Party) (r : Party) → p ≡ None → q ≡ Some r → either_party p q ≡ Some r
second_one (Some p) q r e f = absurd (none-some p (sym e))
second_one None q r e f = f

second_each : (ps qs : List (Option Party)) (k : ℕ) (r : Party) → get_or ps k None ≡ None → get_or qs k None ≡ Some r → get_or (either_each ps qs) k None ≡ Some r
second_each [] qs k r e f = f
second_each (p ∷ ps) [] k r e f = absurd (none-some r f)
second_each (p ∷ ps) (q ∷ qs) zero r e f = second_one p q r e f
second_each (p ∷ ps) (q ∷ qs) (suc k) r e f = second_each ps qs k r e f

pub second_at : (ps qs : List (Option Party)) (agent : ℕ) (r : Party) → party_in ps agent ≡ None → party_in qs agent ≡ Some r → party_in (either_each ps qs) agent ≡ Some r
second_at ps qs zero r e f = f
second_at ps qs (suc k) r e f = second_each ps qs k r e f
