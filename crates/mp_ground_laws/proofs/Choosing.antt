-- The lists of member objects, in numbers and by names.
use Rattle.mp_ground_laws.proofs.Basics.{arith, ◌≡◌, ℕ, suc, ◌+◌, ◌<◌, Bool, true, false, List, [], ◌∷◌, ◌++◌, map, filter, length, get_or, All, Some, None, slice_get, refl, sym, ap, ◌∙◌, subst, inl, inr, cases_Bool, and_from, map-append, length-map, get_or-map}
use Rattle.mp_ground_laws.proofs.Basics.{All-nil, All-cons, All-map, get_or_from_slice_get, bytes_eq-Decides, find, flat_map, option_map_or, bytes_eq, Text, Typed, Factor, name_at, members_of, vocabulary_of, product, members_by_name, named_objects}
use Rattle.mp_ground_laws.proofs.Basics.{IsObject, IsBinding}
use Rattle.mp_typing.specs.Names.{names_of}
use Rattle.mp_typing.specs.ObjectList.{object_list}
use Rattle.mp_typing.specs.Places.{numbers_where}
use Rattle.mp_typing.specs.Under.{is_of_type}
use Rattle.mp_joint.specs.FactorContribution.{may_stand, may_stand_for}
use Rattle.mp_ground_laws.proofs.Distinct.{AreDistinct}
use Rattle.mp_ground_laws.proofs.Facts.{objects_distinct}
use Rattle.mp_ground_laws.proofs.Lists.{all_parts}
use Rattle.mp_ground_laws.proofs.Numbered.{one_place}
use Rattle.std.proofs.lemmas.Bool.{false_from_ne_true}
use Rattle.std.proofs.lemmas.List.Elements.{All-weaker, Contains-get_or}
use Rattle.std.proofs.lemmas.List.Recursion.{found_at}
use Rattle.std.proofs.lemmas.Option.{slice_get_within}
use Rattle.std.proofs.lemmas.Simd.{map-map}
use Rattle.mp_typing.proofs.Placing.{place_passes}

-- ---- the places of items that pass a test

-- what the places stand for are the items
at_places : {X Y : Type 0} (g : ℕ → Y) (f : X → Y) (test : X → Bool) (k : ℕ) (xs : List X)
    → ((i : ℕ) (d : X) → i < length xs → g (k + i) ≡ f (get_or xs i d)) → map g (numbers_where k test xs) ≡ map f (filter test xs)
unfolding numbers_where
at_places g f test k [] each = refl
at_places g f test k (x ∷ xs) each =
    let rest = at_places g f test (suc k) xs (λ i d less. ap g (let e : suc k + i ≡ k + suc i = omega arith in e) ∙ each (suc i) d (omega (arith, less))) in
    elim (cases_Bool (test x)) [
      | inl taken ↦
          let first : g k ≡ f x = ap g (let e : k ≡ k + 0 = omega arith in e) ∙ each 0 x (omega arith) in
          rw taken (λ i. first i ∷ rest i)
      | inr left ↦ rw left rest
    ]

named_there : (factor : Factor) (i : ℕ) (d : Typed) → i < length (object_list factor.domain factor.problem)
    → name_at (vocabulary_of factor).objects (0 + i) ≡ (get_or (object_list factor.domain factor.problem) i d).word.name
named_there factor i d less =
    ap (name_at (vocabulary_of factor).objects) (let e : 0 + i ≡ i = omega arith in e)
    ∙ get_or-map (λ (o : Typed). o.word.name) (object_list factor.domain factor.problem) i d [] less

members_named : (factor : Factor) (p : Typed) → members_by_name factor p ≡ map (name_at (vocabulary_of factor).objects) (members_of factor p)
members_named factor p =
    sym (at_places (name_at (vocabulary_of factor).objects) (λ (o : Typed). o.word.name) (is_of_type factor.domain.types (names_of p.types)) 0
    (object_list factor.domain factor.problem) (named_there factor))

-- ---- members

-- an item is the first of its name
first_of_name : (xs : List Typed) (i : ℕ) (o : Typed) → AreDistinct (map (λ (q : Typed). q.word.name) xs) → slice_get xs i ≡ Some o
    → find (λ (q : Typed). bytes_eq q.word.name o.word.name) xs ≡ Some o
first_of_name xs i o once at =
    let names = map (λ (q : Typed). q.word.name) xs in
    let long = length-map xs (λ (q : Typed). q.word.name) in
    let less = slice_get_within xs i o at in
    let here : get_or xs i o ≡ o = get_or_from_slice_get xs i o o at in
    let name = λ (k : ℕ) (lt : k < length xs). get_or-map (λ (q : Typed). q.word.name) xs k o [] lt in
    found_at (find (λ (q : Typed). bytes_eq q.word.name o.word.name)) (λ (q : Typed). bytes_eq q.word.name o.word.name) Some None refl (λ _ _. refl) xs i o less
    (λ k lt. false_from_ne_true _ (λ same.
    let one = one_place names k i once (omega arith) (omega arith)
    (name k (omega arith) ∙ (bytes_eq-Decides _ _).0 same ∙ sym (name i less ∙ ap (λ (q : Typed). q.word.name) here)) in omega arith))
    ((bytes_eq-Decides _ _).1 (ap (λ (q : Typed). q.word.name) here))
    ∙ ap Some here

-- a number of an object that may stand for a parameter
record IsMember (factor : Factor) (p : Typed) (n : ℕ) : Type 0 where
  within : IsObject factor n
  may : may_stand factor p (name_at (vocabulary_of factor).objects n) ≡ true

members_may : (factor : Factor) (p : Typed) → All (IsMember factor p) (members_of factor p)
members_may factor p k d less =
    let objects = object_list factor.domain factor.problem in
    let test = is_of_type factor.domain.types (names_of p.types) in
    let n = get_or (members_of factor p) k d in
    let (o, at, passes) = place_passes test objects n (Contains-get_or (members_of factor p) k d less) in
    let within = slice_get_within objects n o at in
    let name : name_at (vocabulary_of factor).objects n ≡ o.word.name =
    get_or-map (λ (q : Typed). q.word.name) objects n o [] within ∙ ap (λ (q : Typed). q.word.name) (get_or_from_slice_get objects n o o at) in
    record {
      within = subst (λ m. n < m) (sym (length-map objects (λ (q : Typed). q.word.name))) within;
      may = ap (may_stand factor p) name ∙ ap (λ q. option_map_or test q false) (first_of_name objects n o (objects_distinct factor) at) ∙ passes;
    }

-- ---- lists of members

-- objects, one for each parameter, each of which may stand there
pub record IsChoice (factor : Factor) (params : List Typed) (objects : List ℕ) : Type 0 where
  pub binding : IsBinding factor params objects
  pub may : may_stand_for factor params (named_objects factor objects) ≡ true

one_more : (factor : Factor) (p : Typed) (ps : List Typed) (n : ℕ) (b : List ℕ) → IsMember factor p n → IsChoice factor ps b → IsChoice factor (p ∷ ps) (n ∷ b)
one_more factor p ps n b m c =
    let long = c.binding.long in
    record {
      binding = record { long = ap suc long; range = All-cons (IsObject factor) n b m.within c.binding.range };
      may = and_from (may_stand factor p (name_at (vocabulary_of factor).objects n)) (may_stand_for factor ps (named_objects factor b)) m.may c.may;
    }

pub products_are_choices : (factor : Factor) (params : List Typed) → All (IsChoice factor params) (product (map (members_of factor) params))
unfolding product
products_are_choices factor [] =
    All-cons (IsChoice factor []) [] [] (record { binding = record { long = refl; range = All-nil (IsObject factor) }; may = refl }) (All-nil (IsChoice factor []))
products_are_choices factor (p ∷ ps) =
    let rest = product (map (members_of factor) ps) in
    all_parts (IsMember factor p) (IsChoice factor (p ∷ ps)) (λ n. map (λ b. n ∷ b) rest) (members_of factor p) (members_may factor p)
    (λ n m. All-map (IsChoice factor (p ∷ ps)) (λ b. n ∷ b) rest
    (All-weaker (IsChoice factor ps) (λ b. IsChoice factor (p ∷ ps) (n ∷ b)) (λ b c. one_more factor p ps n b m c) rest (products_are_choices factor ps)))

-- ---- and their names

each_named : (factor : Factor) (ns : List ℕ) (bs : List (List ℕ))
    → flat_map (λ name. map (λ rest. name ∷ rest) (map (named_objects factor) bs)) (map (name_at (vocabulary_of factor).objects) ns)
    ≡ map (named_objects factor) (flat_map (λ x. map (λ b. x ∷ b) bs) ns)
each_named factor [] bs = refl
each_named factor (n ∷ ns) bs =
    let first = λ (names : List Text). name_at (vocabulary_of factor).objects n ∷ names in
    (λ i. (map-map first (named_objects factor) bs ∙ sym (map-map (named_objects factor) (λ b. n ∷ b) bs)) i ++ each_named factor ns bs i)
    ∙ sym (map-append (named_objects factor) (map (λ b. n ∷ b) bs) (flat_map (λ x. map (λ b. x ∷ b) bs) ns))

pub products_named : (factor : Factor) (params : List Typed)
    → product (map (members_by_name factor) params) ≡ map (named_objects factor) (product (map (members_of factor) params))
unfolding product
products_named factor [] = refl
products_named factor (p ∷ ps) =
    (λ i. flat_map (λ name. map (λ rest. name ∷ rest) (products_named factor ps i)) (members_named factor p i))
    ∙ each_named factor (members_of factor p) (product (map (members_of factor) ps))
