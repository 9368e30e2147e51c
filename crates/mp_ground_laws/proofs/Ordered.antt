-- The counted facts in numbers stand for those by names, different ones for different ones and in the same order.
use Rattle.mp_ground_laws.proofs.Basics.{◌≡◌, ℕ, not, List, [], ◌∷◌, ◌++◌, map, Option, Some, None, slice_get, refl, sym, ap, ◌∙◌, map-append, flat_map, option_map_or, Factor, SignedFact, GroundAtom, LiftedAction}
use Rattle.mp_ground_laws.proofs.Basics.{LiftedFactor, OpenView, lifted_factor, setting_of, ActionBinding, is_private, instances, GroundFact, fact_cmp, needed, added, deleted, touched, of_action, goal_facts, counted, IsChecked}
use Rattle.mp_ground_laws.proofs.Basics.{counted_facts, signed_cmp, named_instance, signed_fact, IsOfFactor}
use Rattle.std.specs.Ordering.{ordering_then, bool_cmp, nat_cmp}
use Rattle.std.specs.Cmp.Lexicographic.{slice_cmp}
use Rattle.mp_ground_facts.specs.Facts.{atom_of}
use Rattle.mp_ground_laws.specs.Counted.{touched_by}
use Rattle.mp_ground_laws.proofs.Facts.{atom_again, different_facts}
use Rattle.mp_ground_laws.proofs.Grounding.{instances_stand}
use Rattle.mp_ground_laws.proofs.Needed.{goals_stand, not_not}
use Rattle.mp_ground_laws.proofs.Parts.{HasParts, parts_of}
use Rattle.mp_ground_laws.proofs.Starts.{public_is}

-- ---- the counted facts

three_parts : (f : GroundFact → SignedFact) (lifted : LiftedFactor) (objects : List ℕ) (o : Option LiftedAction)
    → map f (option_map_or (λ (a : LiftedAction). touched lifted a objects) o [])
    ≡ map f (option_map_or (λ (a : LiftedAction). needed lifted a objects) o [])
    ++ map f (option_map_or (λ (a : LiftedAction). added lifted a objects) o [])
    ++ map f (option_map_or (λ (a : LiftedAction). deleted lifted a objects) o [])
three_parts f lifted objects None = refl
three_parts f lifted objects (Some a) =
    map-append f (needed lifted a objects ++ added lifted a objects) (deleted lifted a objects)
    ∙ ap (λ xs. xs ++ map f (deleted lifted a objects)) (map-append f (needed lifted a objects) (added lifted a objects))

all_touched : (agent : ℕ) (factor : Factor) (lifted : LiftedFactor) (is' : List ActionBinding)
    → map (signed_fact agent factor) (flat_map (of_action lifted touched) is') ≡ flat_map touched_by (map (named_instance agent factor lifted) is')
all_touched agent factor lifted [] = refl
all_touched agent factor lifted (i ∷ is') =
    map-append (signed_fact agent factor) (of_action lifted touched i) (flat_map (of_action lifted touched) is')
    ∙ (λ j. three_parts (signed_fact agent factor) lifted i.objects (slice_get lifted.actions i.action) j ++ all_touched agent factor lifted is' j)

pub counted_stand : (agent : ℕ) (factor : Factor) (view : OpenView) → IsChecked factor
    → map (signed_fact agent factor) (counted (lifted_factor factor view) (instances (lifted_factor factor view)))
    ≡ counted_facts agent factor (setting_of agent factor view)
counted_stand agent factor view checked =
    let lifted = lifted_factor factor view in
    map-append (signed_fact agent factor) (flat_map (of_action lifted touched) (instances lifted)) (goal_facts lifted)
    ∙ (λ i. (all_touched agent factor lifted (instances lifted) ∙ ap (flat_map touched_by) (instances_stand agent factor view checked)) i
    ++ goals_stand agent factor view (parts_of factor checked.no_fault) i)

-- ---- different ones

pub different_signed : (agent : ℕ) (factor : Factor) (view : OpenView) (f g : GroundFact) → HasParts factor → IsOfFactor factor view f → IsOfFactor factor view g
    → signed_fact agent factor f ≡ signed_fact agent factor g → f ≡ g
different_signed agent factor view f g parts first second h =
    let atoms : atom_of f ≡ atom_of g =
    different_facts agent factor (atom_of f) (atom_of g) parts first.range second.range (ap (λ (x : SignedFact). x.fact) h) in
    let signs : f.is_complement ≡ g.is_complement =
    not_not f.is_complement ∙ ap (λ (x : SignedFact). not x.positive) h ∙ sym (not_not g.is_complement) in
    let publics : f.is_public ≡ g.is_public =
    first.public ∙ ap (λ (a : GroundAtom). not (is_private (lifted_factor factor view) a)) atoms ∙ sym second.public in
    λ i. record { is_public = publics i; is_complement = signs i; predicate = (atoms i).symbol; objects = (atoms i).args }

-- ---- their order

pub same_order : (agent : ℕ) (factor : Factor) (view : OpenView) (f g : GroundFact) → HasParts factor → IsOfFactor factor view f → IsOfFactor factor view g
    → signed_cmp factor (signed_fact agent factor f) (signed_fact agent factor g) ≡ fact_cmp f g
same_order agent factor view f g parts first second =
    let a = atom_again agent factor (atom_of f) parts first.range in
    let b = atom_again agent factor (atom_of g) parts second.range in
    let publics = λ (h : GroundFact) (is : IsOfFactor factor view h). sym (is.public ∙ public_is agent factor view (atom_of h) is.range) in
    λ i. ordering_then (bool_cmp (publics f first i) (publics g second i))
    (ordering_then (bool_cmp (sym (not_not f.is_complement) i) (sym (not_not g.is_complement) i))
    (ordering_then (nat_cmp (a i).symbol (b i).symbol) (slice_cmp nat_cmp (a i).args (b i).args)))
