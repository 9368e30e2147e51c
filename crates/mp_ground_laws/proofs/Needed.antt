-- What an action in numbers needs, adds and deletes stands for what its instance by names does.
use Rattle.mp_ground_laws.proofs.Basics.{◌≡◌, ℕ, ◌<◌, Bool, true, false, not, ◌&&◌, List, [], ◌++◌, map, filter, length, All, refl, sym, ap, ◌∙◌, map-append, get_or-map, Typed, Atom, Schema, Factor}
use Rattle.mp_ground_laws.proofs.Basics.{name_at, NamedFact, instance_with, facts_of, asked_atoms, negated_atoms, GroundAtom, LiftedFactor, OpenView, lifted_factor, lifted_where, is_changed, setting_of, vocabulary_of, atoms_at}
use Rattle.mp_ground_laws.proofs.Basics.{is_so, plain, complement, has_complement, needed, added, deleted, goal_facts, named_objects, named_fact, signed_fact, numbered_action, IsBinding, IsInRange}
use Rattle.std.proofs.lemmas.List.Elements.{filter_agree}
use Rattle.std.proofs.lemmas.Simd.{map-map}
use Rattle.mp_ground_facts.specs.Facts.{fact_of}
use Rattle.mp_joint.specs.Fact as joint
use Rattle.mp_joint.specs.Grounded as named
use Rattle.mp_lifting.specs.Views.{has_complements}
use Rattle.mp_ground_laws.proofs.Atoms.{AreFacts, atoms_stand, ground_atoms_stand, some_stand}
use Rattle.mp_ground_laws.proofs.Facts.{same_among}
use Rattle.mp_ground_laws.proofs.Lists.{filter_of_map, filter_where}
use Rattle.mp_ground_laws.proofs.Parts.{IsAtom, IsSchema, HasParts}

-- ---- facts and complements

signed : (agent : ℕ) (factor : Factor) (lifted : LiftedFactor) (sign : Bool) (atoms : List GroundAtom) (facts : List NamedFact)
    → map (named_fact agent factor) atoms ≡ facts
    → map (signed_fact agent factor) (map (fact_of lifted sign) atoms) ≡ map (λ f. record { positive = not sign; fact = f }) facts
signed agent factor lifted sign atoms facts h =
    map-map (signed_fact agent factor) (fact_of lifted sign) atoms
    ∙ sym (map-map (λ f. record { positive = not sign; fact = f }) (named_fact agent factor) atoms)
    ∙ ap (map (λ f. record { positive = not sign; fact = f })) h

-- facts, and behind them complements
both_signed : (agent : ℕ) (factor : Factor) (lifted : LiftedFactor) (first second : List GroundAtom) {facts others : List NamedFact}
    → map (named_fact agent factor) first ≡ facts → map (named_fact agent factor) second ≡ others
    → map (signed_fact agent factor) (map (plain lifted) first ++ map (complement lifted) second) ≡ map joint.plain facts ++ map joint.complement others
both_signed agent factor lifted first second h k =
    map-append (signed_fact agent factor) _ _ ∙ (λ i. signed agent factor lifted false first _ h i ++ signed agent factor lifted true second _ k i)

-- ---- those that pass a test

some_facts : (agent : ℕ) (factor : Factor) (p : GroundAtom → Bool) (q : NamedFact → Bool) {atoms : List GroundAtom} {facts : List NamedFact}
    → AreFacts agent factor atoms facts → ((a : GroundAtom) → IsInRange factor a → p a ≡ q (named_fact agent factor a))
    → map (named_fact agent factor) (filter p atoms) ≡ filter q facts
some_facts agent factor p q h same =
    ap (map (named_fact agent factor)) (filter_where (IsInRange factor) p (λ a. q (named_fact agent factor a)) _ h.range same)
    ∙ sym (filter_of_map (named_fact agent factor) q _) ∙ ap (filter q) h.are

-- what is so of the name with a number
pub flag_at : (test : joint.Text → Bool) (names : List joint.Text) (n : ℕ) → n < length names → is_so (map test names) n ≡ test (name_at names n)
flag_at test names n less = get_or-map test names n [] false less

complement_is : (agent : ℕ) (factor : Factor) (view : OpenView) (a : GroundAtom) → IsInRange factor a
    → has_complement (lifted_factor factor view) a ≡ named.has_complement (setting_of agent factor view) (named_fact agent factor a)
complement_is agent factor view a h = flag_at (has_complements factor view) (vocabulary_of factor).predicates a.symbol h.symbol

pub not_not : (b : Bool) → b ≡ not (not b)
not_not true = refl
not_not false = refl

-- ---- what an instance needs, adds and deletes

dynamic : (agent : ℕ) (factor : Factor) (view : OpenView) (params : List Typed) (objects : List ℕ) (atoms : List Atom) → IsBinding factor params objects
    → All (IsAtom params factor) atoms
    → map (named_fact agent factor) (atoms_at objects (lifted_where (vocabulary_of factor) (is_changed factor view) params atoms))
    ≡ filter (λ (f : NamedFact). not (named.is_static_fact (setting_of agent factor view) f)) (facts_of agent factor params (named_objects factor objects) atoms)
dynamic agent factor view params objects atoms b h =
    (some_stand agent factor params objects (is_changed factor view) atoms b h).are
    ∙ filter_agree (λ (f : NamedFact). is_changed factor view f.predicate) _ (λ f. not_not (is_changed factor view f.predicate)) _

pub needed_stand : (agent : ℕ) (factor : Factor) (view : OpenView) (s : Schema) (objects : List ℕ) (cost : ℕ) → IsBinding factor s.params objects → IsSchema factor s
    → map (signed_fact agent factor) (needed (lifted_factor factor view) (numbered_action factor view s) objects)
    ≡ named.needed (setting_of agent factor view) (instance_with agent factor s (named_objects factor objects) cost)
needed_stand agent factor view s objects cost b h =
    both_signed agent factor (lifted_factor factor view) _ _
    (dynamic agent factor view s.params objects (asked_atoms s.pre) b h.pre.asked)
    (dynamic agent factor view s.params objects (negated_atoms s.pre) b h.pre.negated)

pub added_stand : (agent : ℕ) (factor : Factor) (view : OpenView) (s : Schema) (objects : List ℕ) (cost : ℕ) → HasParts factor → IsBinding factor s.params objects → IsSchema factor s
    → map (signed_fact agent factor) (added (lifted_factor factor view) (numbered_action factor view s) objects)
    ≡ named.added (setting_of agent factor view) (instance_with agent factor s (named_objects factor objects) cost)
added_stand agent factor view s objects cost parts b h =
    let adds = atoms_stand agent factor s.params objects s.add b h.add in
    both_signed agent factor (lifted_factor factor view) _ _ adds.are
    (some_facts agent factor _
    (λ f. named.has_complement (setting_of agent factor view) f && not (joint.is_among f (facts_of agent factor s.params (named_objects factor objects) s.add)))
    (atoms_stand agent factor s.params objects s.del b h.del)
    (λ a range i. complement_is agent factor view a range i
    && not ((sym (same_among agent factor a _ parts range adds.range) ∙ ap (joint.is_among (named_fact agent factor a)) adds.are) i)))

pub deleted_stand : (agent : ℕ) (factor : Factor) (view : OpenView) (s : Schema) (objects : List ℕ) (cost : ℕ) → IsBinding factor s.params objects → IsSchema factor s
    → map (signed_fact agent factor) (deleted (lifted_factor factor view) (numbered_action factor view s) objects)
    ≡ named.deleted (setting_of agent factor view) (instance_with agent factor s (named_objects factor objects) cost)
deleted_stand agent factor view s objects cost b h =
    both_signed agent factor (lifted_factor factor view) _ _ (atoms_stand agent factor s.params objects s.del b h.del).are
    (some_facts agent factor _ (named.has_complement (setting_of agent factor view)) (atoms_stand agent factor s.params objects s.add b h.add)
    (complement_is agent factor view))

-- the goals: facts, and complements of those that are negated
pub goals_stand : (agent : ℕ) (factor : Factor) (view : OpenView) → HasParts factor
    → map (signed_fact agent factor) (goal_facts (lifted_factor factor view))
    ≡ map joint.plain (facts_of agent factor [] [] (asked_atoms factor.problem.goals)) ++ map joint.complement (facts_of agent factor [] [] (negated_atoms factor.problem.goals))
goals_stand agent factor view parts =
    both_signed agent factor (lifted_factor factor view) _ _
    (ground_atoms_stand agent factor (asked_atoms factor.problem.goals) parts.goals.asked).are
    (ground_atoms_stand agent factor (negated_atoms factor.problem.goals) parts.goals.negated).are
