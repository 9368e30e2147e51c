-- What is true at the start in numbers is so by names, and so are the static preconditions.
use Rattle.mp_ground_laws.proofs.Basics.{◌≡◌, ℕ, Bool, true, false, not, ◌||◌, List, [], ◌∷◌, map, filter, All, Some, None, is_none, if◌then◌else◌, refl, sym, ap, ◌∙◌, inl, inr, cases_Bool, All-head, All-tail, list_any, Atom, Factor, name_at, privates_of, fact_of, facts_of}
use Rattle.mp_ground_laws.proofs.Basics.{NamedFact, GroundAtom, OpenView, lifted_factor, ground_atom, known_atoms, fact_text, vocabulary_of, is_among, is_so, is_private, is_true_at_start, IsChecked, named_objects, named_fact, IsInRange}
use Rattle.std.proofs.lemmas.List.Elements.{All-filter}
use Rattle.mp_joint.specs.Fact as joint
use Rattle.mp_lifting.specs.Privates.{is_private_atom}
use Rattle.mp_lifting.specs.Views.{is_initial}
use Rattle.mp_ground_laws.proofs.Atoms.{ground_atoms_stand}
use Rattle.mp_ground_laws.proofs.Facts.{same_among}
use Rattle.mp_ground_laws.proofs.Needed.{flag_at}
use Rattle.mp_ground_laws.proofs.Numbered.{IsPlace}
use Rattle.mp_ground_laws.proofs.Parts.{HasParts, IsAtom}
use Rattle.mp_ground_laws.proofs.Texts.{known_texts}

flags_any : (test : joint.Text → Bool) (names : List joint.Text) (ns : List ℕ) → All (IsPlace names) ns
    → list_any (is_so (map test names)) ns ≡ list_any test (map (name_at names) ns)
flags_any test names [] h = refl
flags_any test names (n ∷ ns) h =
    λ i. flag_at test names n (All-head (IsPlace names) n ns h) i || flags_any test names ns (All-tail (IsPlace names) n ns h) i

-- by names, whether a fact of an atom is private
abbrev is_private_fact : Factor → GroundAtom → Bool
is_private_fact factor a =
    joint.is_private (privates_of factor) (name_at (vocabulary_of factor).predicates a.symbol) (named_objects factor a.args)

private_is : (factor : Factor) (view : OpenView) (a : GroundAtom) → IsInRange factor a → is_private (lifted_factor factor view) a ≡ is_private_fact factor a
private_is factor view a h =
    let voc = vocabulary_of factor in
    let privates = privates_of factor in
    λ i. flag_at (λ p. joint.is_listed p privates.predicates) voc.predicates a.symbol h.symbol i
    || flags_any (λ o. joint.is_listed o privates.objects) voc.objects a.args h.args i

-- a fact that is not private has no owner
pub nobody : (agent : ℕ) (test : Bool) → not test ≡ is_none (if test then Some agent else None)
nobody agent true = refl
nobody agent false = refl

pub public_is : (agent : ℕ) (factor : Factor) (view : OpenView) (a : GroundAtom) → IsInRange factor a
    → not (is_private (lifted_factor factor view) a) ≡ is_none (named_fact agent factor a).owner
public_is agent factor view a h = ap not (private_is factor view a h) ∙ nobody agent (is_private_fact factor a)

-- a private fact is among those of the private atoms where it is among all
among_private : (agent : ℕ) (factor : Factor) (f : NamedFact) (atoms : List Atom) → joint.same_owner f.owner None ≡ false
    → joint.is_among f (facts_of agent factor [] [] (filter (is_private_atom (privates_of factor)) atoms)) ≡ joint.is_among f (facts_of agent factor [] [] atoms)
among_private agent factor f [] mine = refl
among_private agent factor f (x ∷ xs) mine =
    let others = filter (is_private_atom (privates_of factor)) xs in
    let rest = among_private agent factor f xs mine in
    elim (cases_Bool (is_private_atom (privates_of factor) x)) [
      | inl private ↦
          ap (λ b. joint.is_among f (facts_of agent factor [] [] (if b then x ∷ others else others))) private
          ∙ ap (λ t. joint.same_fact f (fact_of agent (privates_of factor) [] [] x) || t) rest
      | inr public ↦ rw (public, mine) rest
    ]

by_owner : (agent : ℕ) (test : Bool) (a : GroundAtom) (own shown : List GroundAtom) (x y : Bool) → (test ≡ true → is_among a own ≡ y)
    → is_among a shown ≡ x → is_among a (if test then own else shown) ≡ (if is_none (if test then Some agent else None) then x else y)
by_owner agent true a own shown x y of_own of_shown = of_own refl
by_owner agent false a own shown x y of_own of_shown = of_shown

-- an atom is true at the start where its fact is
pub same_start : (agent : ℕ) (factor : Factor) (view : OpenView) (a : GroundAtom) → IsChecked factor → HasParts factor → IsInRange factor a
    → is_true_at_start (lifted_factor factor view) a ≡ is_initial agent factor view (named_fact agent factor a)
same_start agent factor view a checked parts range =
    let voc = vocabulary_of factor in
    let is_own = is_private_atom (privates_of factor) in
    let privates = filter is_own factor.problem.init in
    let own = map (ground_atom voc) privates in
    let shown = known_atoms voc view.init in
    let facts = facts_of agent factor [] [] factor.problem.init in
    let f = named_fact agent factor a in
    let of_init = ground_atoms_stand agent factor privates (All-filter is_own (IsAtom [] factor) factor.problem.init parts.init) in
    let of_own = λ (private : is_private_fact factor a ≡ true).
    sym (same_among agent factor a own parts range of_init.range) ∙ ap (joint.is_among f) of_init.are
    ∙ among_private agent factor f factor.problem.init (ap (λ b. joint.same_owner (if b then Some agent else None) None) private) in
    let of_shown : is_among a shown ≡ joint.is_listed (fact_text f) view.init = known_texts agent factor a view.init checked parts range in
    ap (λ b. is_among a (if b then own else shown)) (private_is factor view a range)
    ∙ by_owner agent (is_private_fact factor a) a own shown (joint.is_listed (fact_text f) view.init) (joint.is_among f facts) of_own of_shown
