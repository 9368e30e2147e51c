-- Two factors that are the same in numbers are grounded to the same numbers, which stand for the same public texts.
use Rattle.std.proofs.Common.{◌≡◌, ℕ, suc, Bool, true, cond, List, [], ◌∷◌, map, drop, Ordering, Less, Greater, refl, sym, ap, ◌∙◌, subst, false}
use Rattle.std.specs.Cmp.Lexicographic.{slice_cmp}
use Rattle.std.specs.Ordering.{ordering_then, bool_cmp, nat_cmp}
use Rattle.std.specs.Prelude.{Contains}
use Rattle.mp_list.proofs.Members.{contains_head, contains_tail}
use Rattle.mp_sexp.specs.Numbers.{number_in}
use Rattle.mp_typing.specs.Places.{numbers_where}
use Rattle.mp_typing.proofs.Passing.{taken_passes}
use Rattle.mp_lifted.specs.declared.lifted.GroundAtom.{GroundAtom}
use Rattle.mp_lifted.specs.declared.lifted.LiftedFactor.{LiftedFactor}
use Rattle.mp_lifted.specs.Binding.{ActionBinding}
use Rattle.mp_instances.specs.Instances.{instances}
use Rattle.mp_ground_facts.specs.declared.fact.GroundFact.{GroundFact}
use Rattle.mp_ground_facts.specs.Facts.{fact_cmp, is_initial}
use Rattle.mp_ground_facts.specs.Ground.{GroundFactor, facts_of, numbers_of, ground_action, ground_factor}
use Rattle.mp_ground_facts.specs.Touched.{goal_facts}
use Rattle.mp_ground_facts.proofs.FactsOf.{facts_rise}
use Rattle.mp_views.specs.Sorted.{sorted_once}
use Rattle.mp_grounder.specs.declared.names.FactNames.{FactNames}
use Rattle.mp_grounder.specs.Numbered.{text_at, count_private, public_texts_at, places_of, rising, private_numbers, public_numbers, act_at, binding_at, ground_at}
use Rattle.mp_grounder.proofs.Members.{map_on}
use Rattle.mp_grounder.proofs.Parted.{passing_behind}
use Rattle.mp_stands.specs.Translation.{AreAlikeButKnown}

-- ---- in numbers

-- tests that agree on the members of a list take the same places
numbers_on : {X : Type 0} (from : ℕ) (p q : X → Bool) (xs : List X) → ((x : X) → Contains xs x → q x ≡ p x)
    → numbers_where from q xs ≡ numbers_where from p xs
unfolding numbers_where
numbers_on from p q [] h = refl
numbers_on from p q (x ∷ xs) h =
    let first = h x (contains_head x xs) in
    let rest = numbers_on (suc from) p q xs (λ y there. h y (contains_tail x xs y there)) in
    λ i. cond (first i) (from ∷ rest i) (rest i)

-- what facts there are doesn't depend on what others show of the start
same_facts : (factor : LiftedFactor) (known : List GroundAtom) (all : List ActionBinding)
    → facts_of (record factor { known = known }) all ≡ facts_of factor all
unfolding facts_of
same_facts factor known all = refl

-- factors that differ in this alone are grounded to the same where they have the same instances, and the same facts are
-- true at the start
pub same_grounding : (a b : LiftedFactor) → AreAlikeButKnown a b → instances b ≡ instances a
    → ((x : GroundFact) → Contains (facts_of a (instances a)) x → is_initial b x ≡ is_initial a x)
    → ground_factor b (instances b) ≡ ground_factor a (instances a)
same_grounding a b alike all started =
    let these = instances a in
    let facts : facts_of b these ≡ facts_of a these =
    ap (λ (l : LiftedFactor). facts_of l these) alike ∙ same_facts a b.known these in
    let start : numbers_where 0 (is_initial b) (facts_of b these) ≡ numbers_where 0 (is_initial a) (facts_of a these) =
    ap (numbers_where 0 (is_initial b)) facts ∙ numbers_on 0 (is_initial a) (is_initial b) (facts_of a these) started in
    ap (ground_factor b) all
    ∙ (λ i. record {
      facts = facts i;
      actions = map (ground_action (alike i) (facts i)) these;
      start = start i;
      goals = numbers_of (facts i) (goal_facts (alike i));
    })

-- ---- by their texts

-- of the names only the texts of public facts are kept
pub same_by_texts : (me : ℕ) (n m : FactNames) (g : GroundFactor)
    → public_texts_at m g.facts ≡ public_texts_at n g.facts → ground_at me m g ≡ ground_at me n g
same_by_texts me n m g texts =
    let places : places_of m g.facts ≡ places_of n g.facts =
    λ i. record { privates = count_private g.facts; publics = map (number_in (sorted_once (texts i))) (texts i) } in
    λ i. record {
      me = me;
      publics = sorted_once (texts i);
      privates = count_private g.facts;
      start = rising (private_numbers (places i) g.start);
      goal_pub = rising (public_numbers (places i) g.goals);
      goal_priv = rising (private_numbers (places i) g.goals);
      acts = map (act_at (places i)) g.actions;
      steps = map binding_at g.actions;
    }

abbrev is_public_fact : GroundFact → Bool
is_public_fact x = x.is_public

-- what is behind a public fact is public
up : (x y : GroundFact) → fact_cmp x y ≡ Less → x.is_public ≡ true → y.is_public ≡ true
up x y less public = by y.is_public refl
  where
    rest : Ordering
    rest =
        ordering_then (bool_cmp x.is_complement y.is_complement)
        (ordering_then (nat_cmp x.predicate y.predicate) (slice_cmp nat_cmp x.objects y.objects))

    by : (b : Bool) → y.is_public ≡ b → y.is_public ≡ true
    by true e = e
    by false e =
        absurd (let no : Greater ≡ Less = sym (λ i. ordering_then (bool_cmp (public i) (e i)) rest) ∙ less in cc)

-- names that give the public facts of a factor the same texts
pub same_texts : (factor : LiftedFactor) (all : List ActionBinding) (n m : FactNames)
    → ((x : GroundFact) → Contains (facts_of factor all) x → x.is_public ≡ true → text_at m x ≡ text_at n x)
    → public_texts_at m (facts_of factor all) ≡ public_texts_at n (facts_of factor all)
same_texts factor all n m same =
    let facts = facts_of factor all in
    let behind = passing_behind fact_cmp is_public_fact up facts (facts_rise factor all) in
    map_on (text_at m) (text_at n) (drop (count_private facts) facts)
    (λ x found.
    let is = taken_passes is_public_fact facts x (subst (λ xs. Contains xs x) (sym behind) found) in
    same x is.0 is.1)
