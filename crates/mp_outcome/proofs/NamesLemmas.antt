-- The names of the agent at a place.
use Rattle.std.proofs.Common.{◌≡◌, ℕ, zero, suc, ◌+◌, List, [], ◌∷◌, map, Some, None, refl, arith}
use Rattle.std.specs.Prelude.{slice_get}
use Rattle.mp_forms.specs.declared.factor.Factor.{Factor}
use Rattle.mp_lifted.specs.Binding.{ActionBinding}
use Rattle.mp_ground_laws.specs.Named.{step_of}
use Rattle.mp_text.specs.Outcome.{names_at}
use Rattle.mp_outcome.specs.Names.{names_from}

-- none where there is no such factor
pub no_factor : (agent : ℕ) (factors : List Factor) (steps : List (List ActionBinding)) (place : ℕ)
    → slice_get factors place ≡ None → names_at (names_from agent factors steps) place ≡ []
no_factor agent [] steps place at = refl
no_factor agent (factor ∷ factors) [] place at = refl
no_factor agent (factor ∷ factors) (own ∷ steps) zero at = cc
no_factor agent (factor ∷ factors) (own ∷ steps) (suc place) at = no_factor (agent + 1) factors steps place at

-- none where there are no own actions
pub no_steps : (agent : ℕ) (factors : List Factor) (steps : List (List ActionBinding)) (place : ℕ)
    → slice_get steps place ≡ None → names_at (names_from agent factors steps) place ≡ []
no_steps agent [] steps place at = refl
no_steps agent (factor ∷ factors) [] place at = refl
no_steps agent (factor ∷ factors) (own ∷ steps) zero at = cc
no_steps agent (factor ∷ factors) (own ∷ steps) (suc place) at = no_steps (agent + 1) factors steps place at

-- else those of the factor's steps
pub both : (agent : ℕ) (factors : List Factor) (steps : List (List ActionBinding))
    (place me : ℕ) (factor : Factor) (own : List ActionBinding)
    → slice_get factors place ≡ Some factor → slice_get steps place ≡ Some own → me ≡ agent + place
    → names_at (names_from agent factors steps) place ≡ map (step_of me factor) own
both agent [] steps place me factor own at there is = cc
both agent (f ∷ factors) [] place me factor own at there is = cc
both agent (f ∷ factors) (o ∷ steps) zero me factor own at there is =
    let first : f ≡ factor = cc in
    let mine : o ≡ own = cc in
    let number : agent ≡ me = omega arith in
    λ i. map (step_of (number i) (first i)) (mine i)
both agent (f ∷ factors) (o ∷ steps) (suc place) me factor own at there is =
    both (agent + 1) factors steps place me factor own at there (omega arith)
