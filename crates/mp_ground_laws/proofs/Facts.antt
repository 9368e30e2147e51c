-- Atoms in range, and the facts that they stand for.
use Rattle.mp_ground_laws.proofs.Basics.{◌≡◌, ℕ, true, ◌||◌, List, [], ◌∷◌, map, All, refl, sym, ap, ◌∙◌, subst, All-head, All-tail, same_tests}
use Rattle.mp_ground_laws.proofs.Basics.{Factor, NamedFact, objects_of, GroundAtom, vocabulary_of, same_atom, is_among, named_fact, IsInRange}
use Rattle.mp_joint.specs.Fact as joint
use Rattle.mp_joint.proofs.SameFacts.{same_fact_is, fact_itself}
use Rattle.mp_lifting.specs.Factors.{ground_with}
use Rattle.mp_ground_laws.proofs.Distinct.{AreDistinct, first_distinct}
use Rattle.mp_ground_laws.proofs.Numbered.{number_at, numbers_again}
use Rattle.mp_ground_laws.proofs.Parts.{HasParts}
use Rattle.mp_lifted.proofs.Keeping.{equal, itself}

pub objects_distinct : (factor : Factor) → AreDistinct (vocabulary_of factor).objects
objects_distinct factor = first_distinct (objects_of factor)

module _ (agent : ℕ) (factor : Factor) where
  abbrev fact : GroundAtom → NamedFact
  fact a = named_fact agent factor a

  -- the names of a fact in numbers are its atom
  pub atom_again : (a : GroundAtom) → HasParts factor → IsInRange factor a
      → ground_with (vocabulary_of factor).predicates (vocabulary_of factor) (named_fact agent factor a).predicate (named_fact agent factor a).args ≡ a
  atom_again a parts is = λ i. record {
    symbol = number_at (vocabulary_of factor).predicates a.symbol parts.predicates is.symbol i;
    args = numbers_again (vocabulary_of factor).objects a.args (objects_distinct factor) is.args i;
  }

  pub different_facts : (a b : GroundAtom) → HasParts factor → IsInRange factor a → IsInRange factor b
      → named_fact agent factor a ≡ named_fact agent factor b → a ≡ b
  different_facts a b parts first second h =
      sym (atom_again a parts first)
      ∙ ap (λ (f : NamedFact). ground_with (vocabulary_of factor).predicates (vocabulary_of factor) f.predicate f.args) h
      ∙ atom_again b parts second

  -- atoms in range are the same where their facts are
  same_facts : (a b : GroundAtom) → HasParts factor → IsInRange factor a → IsInRange factor b → joint.same_fact (fact a) (fact b) ≡ same_atom a b
  same_facts a b parts first second =
      same_tests _ _
      (λ h. subst (λ c. same_atom a c ≡ true) (different_facts a b parts first second (same_fact_is _ _ h)) (itself a))
      (λ h. subst (λ c. joint.same_fact (fact a) (fact c) ≡ true) (equal a b h) (fact_itself (fact a)))

  -- an atom is among others where its fact is among theirs
  pub same_among : (a : GroundAtom) (bs : List GroundAtom) → HasParts factor → IsInRange factor a → All (IsInRange factor) bs
      → joint.is_among (named_fact agent factor a) (map (named_fact agent factor) bs) ≡ is_among a bs
  same_among a [] parts first all = refl
  same_among a (b ∷ bs) parts first all = λ i.
      same_facts a b parts first (All-head (IsInRange factor) b bs all) i || same_among a bs parts first (All-tail (IsInRange factor) b bs all) i
