-- What ground actions stand for.
use Rattle.mp_grounder.proofs.Basics.{◌≡◌, List, [], ◌∷◌, map, refl, ap, LiftedFactor, ActionBinding, GroundFact, ground_action, binding_at}

-- the ground actions of instances stand for the instances
pub instances_stay : (lifted : LiftedFactor) (facts : List GroundFact) (instances : List ActionBinding) → map binding_at (map (ground_action lifted facts) instances) ≡ instances
instances_stay lifted facts [] = refl
instances_stay lifted facts (i ∷ is) = ap (λ (bs : List ActionBinding). i ∷ bs) (instances_stay lifted facts is)
