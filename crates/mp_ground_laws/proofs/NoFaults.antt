-- Lists of faults that are empty, and what the tests that make them say then.
use Rattle.mp_ground_laws.proofs.Basics.{◌≡◌, Bool, true, false, List, [], ◌∷◌, ◌++◌, refl}
use Rattle.std.specs.Prelude.{if◌then◌else◌}

-- both of two lists are empty where they are together
pub none_in_both : {X : Type 0} {xs ys : List X} → xs ++ ys ≡ [] → (xs ≡ []) × (ys ≡ [])
none_in_both {xs = []} e = (refl, e)
none_in_both {xs = x ∷ xs} e = absurd (cc)

-- a fault where a test does not hold
pub not_else : {X : Type 0} {test : Bool} (x : X) {others : List X} → (if test then others else x ∷ []) ≡ [] → (test ≡ true) × (others ≡ [])
not_else {test = true} x e = (refl, e)
not_else {test = false} x e = absurd (cc)
