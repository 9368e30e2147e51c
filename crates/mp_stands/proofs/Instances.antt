-- Two factors that are the same in numbers have the same instances.
use Rattle.std.proofs.Common.{◌≡◌, ℕ, ◌+◌, Bool, not, ◌&&◌, ◌||◌, List, [], ◌∷◌, ◌++◌, cond, map, filter, length, All, refl, ap, ◌∙◌}
use Rattle.std.proofs.lemmas.List.Elements.{All-nil, All-cons, All-head, All-tail}
use Rattle.std.specs.List.{enumerate_from, filter_map, flat_map, list_all}
use Rattle.mp_forms.specs.declared.schema_values.Schema.{Schema}
use Rattle.mp_forms.specs.declared.factor.Factor.{Factor}
use Rattle.mp_joint.specs.Grounding.{asked_atoms, negated_atoms}
use Rattle.mp_lifted.specs.declared.lifted.LiftedAtom.{LiftedAtom}
use Rattle.mp_lifted.specs.declared.lifted.LiftedAction.{LiftedAction}
use Rattle.mp_lifting.specs.declared.view.OpenView.{OpenView}
use Rattle.mp_lifting.specs.Factors.{lifted_factor}
use Rattle.mp_lifting.specs.Lifting.{members_of, lifted_where, is_not}
use Rattle.mp_lifting.specs.Views.{is_changed}
use Rattle.mp_lifting.specs.Vocabulary.{vocabulary_of}
use Rattle.mp_bindings.specs.Bindings.{product}
use Rattle.mp_lifted.specs.Atoms.{atom_at, atoms_at}
use Rattle.mp_lifted.specs.Start.{is_true_at_start}
use Rattle.mp_instances.specs.Instances.{is_known, suits, binding_of, instances_of, instances}
use Rattle.mp_ground_laws.specs.Checked.{IsChecked}
use Rattle.mp_ground_laws.specs.Numbered.{numbered_action, IsBinding, IsInRange}
use Rattle.mp_ground_laws.proofs.Atoms.{some_stand}
use Rattle.mp_ground_laws.proofs.Choosing.{IsChoice, products_are_choices}
use Rattle.mp_ground_laws.proofs.Parts.{IsSchema, parts_of}
use Rattle.mp_stands.specs.Translation.{AreAlike}
use Rattle.mp_stands.proofs.SameStarts.{with_known, same_with_known}

-- ---- two tests that are the same for the items of a list

all_same : {X : Type 0} (P : X → Type 0) (p q : X → Bool) (xs : List X) → All P xs → ((x : X) → P x → p x ≡ q x)
    → list_all p xs ≡ list_all q xs
all_same P p q [] all same = refl
all_same P p q (x ∷ xs) all same =
    λ i. same x (All-head P x xs all) i && all_same P p q xs (All-tail P x xs all) same i

some_same : {X : Type 0} (P : X → Type 0) (p q : X → Bool) (xs : List X) → All P xs → ((x : X) → P x → p x ≡ q x)
    → filter p xs ≡ filter q xs
some_same P p q [] all same = refl
some_same P p q (x ∷ xs) all same =
    ap (λ b. cond b (x ∷ filter p xs) (filter p xs)) (same x (All-head P x xs all))
    ∙ ap (λ ys. cond (q x) (x ∷ ys) ys) (some_same P p q xs (All-tail P x xs all) same)

-- what is so of the images is so of the items by their images
by_images : {X Y : Type 0} (P : Y → Type 0) (h : X → Y) (xs : List X) → All P (map h xs) → All (λ x. P (h x)) xs
by_images P h [] all = All-nil (λ x. P (h x))
by_images P h (x ∷ xs) all =
    All-cons (λ y. P (h y)) x xs (All-head P (h x) (map h xs) all) (by_images P h xs (All-tail P (h x) (map h xs) all))

module _ (view : OpenView) (f g : Factor) (alike : AreAlike view f g) where
  module _ (of_f : IsChecked f) (of_g : IsChecked g) where
    -- with objects for its parameters an atom is true at the start for both or for none
    same_at : (objects : List ℕ) (a : LiftedAtom) → IsInRange f (atom_at objects a)
        → is_true_at_start (with_known view f g) (atom_at objects a)
        ≡ is_true_at_start (lifted_factor f view) (atom_at objects a)
    same_at objects a range = same_with_known view f g alike of_f of_g (atom_at objects a) range

    same_positive : (objects : List ℕ) (atoms : List LiftedAtom) → All (IsInRange f) (atoms_at objects atoms)
        → list_all
        (λ a. not (is_known (length objects) a) || is_true_at_start (with_known view f g) (atom_at objects a)) atoms
        ≡ list_all
        (λ a. not (is_known (length objects) a) || is_true_at_start (lifted_factor f view) (atom_at objects a)) atoms
    same_positive objects atoms range =
        all_same (λ a. IsInRange f (atom_at objects a))
        (λ a. not (is_known (length objects) a) || is_true_at_start (with_known view f g) (atom_at objects a))
        (λ a. not (is_known (length objects) a) || is_true_at_start (lifted_factor f view) (atom_at objects a))
        atoms (by_images (IsInRange f) (atom_at objects) atoms range)
        (λ a h. ap (λ b. not (is_known (length objects) a) || b) (same_at objects a h))

    same_negative : (objects : List ℕ) (atoms : List LiftedAtom) → All (IsInRange f) (atoms_at objects atoms)
        → list_all
        (λ a. not (is_known (length objects) a && is_true_at_start (with_known view f g) (atom_at objects a))) atoms
        ≡ list_all
        (λ a. not (is_known (length objects) a && is_true_at_start (lifted_factor f view) (atom_at objects a))) atoms
    same_negative objects atoms range =
        all_same (λ a. IsInRange f (atom_at objects a))
        (λ a. not (is_known (length objects) a && is_true_at_start (with_known view f g) (atom_at objects a)))
        (λ a. not (is_known (length objects) a && is_true_at_start (lifted_factor f view) (atom_at objects a)))
        atoms (by_images (IsInRange f) (atom_at objects) atoms range)
        (λ a h. ap (λ b. not (is_known (length objects) a && b)) (same_at objects a h))

    -- with objects for all parameters an action suits the start for both or for none
    same_suits : (s : Schema) (objects : List ℕ) → IsSchema f s → IsBinding f s.params objects
        → suits (with_known view f g) (numbered_action f view s) objects
        ≡ suits (lifted_factor f view) (numbered_action f view s) objects
    same_suits s objects h b =
        let static' = is_not (is_changed f view) in
        let asked = lifted_where (vocabulary_of f) static' s.params (asked_atoms s.pre) in
        let negated = lifted_where (vocabulary_of f) static' s.params (negated_atoms s.pre) in
        let first =
        same_positive objects asked (some_stand 0 f s.params objects static' (asked_atoms s.pre) b h.pre.asked).range in
        let second =
        same_negative objects negated
        (some_stand 0 f s.params objects static' (negated_atoms s.pre) b h.pre.negated).range in
        λ i. first i && second i

    -- one action
    same_of_action : (place : ℕ) (s : Schema) → IsSchema f s
        → instances_of (with_known view f g) place (numbered_action f view s)
        ≡ instances_of (lifted_factor f view) place (numbered_action f view s)
    same_of_action place s h =
        let action = numbered_action f view s in
        ap (filter_map (binding_of (lifted_factor f view) place action))
        (some_same (IsChoice f s.params) (suits (with_known view f g) action) (suits (lifted_factor f view) action)
        (product (map (members_of f) s.params)) (products_are_choices f s.params)
        (λ objects c. same_suits s objects h c.binding))

    -- all actions from a place on
    same_from : (place : ℕ) (ss : List Schema) → All (IsSchema f) ss
        → flat_map (λ (x : ℕ × LiftedAction). instances_of (with_known view f g) x.0 x.1)
        (enumerate_from place (map (numbered_action f view) ss))
        ≡ flat_map (λ (x : ℕ × LiftedAction). instances_of (lifted_factor f view) x.0 x.1)
        (enumerate_from place (map (numbered_action f view) ss))
    same_from place [] all = refl
    same_from place (s ∷ ss) all =
        λ i. same_of_action place s (All-head (IsSchema f) s ss all) i
        ++ same_from (place + 1) ss (All-tail (IsSchema f) s ss all) i

    pub same_instances : instances (lifted_factor g view) ≡ instances (lifted_factor f view)
    same_instances =
        ap instances alike.lifted ∙ same_from 0 f.domain.schemas (parts_of f of_f.no_fault).schemas
