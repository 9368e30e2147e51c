-- Static preconditions are as the start has them in numbers where they are by names.
use Rattle.mp_ground_laws.proofs.Basics.{arith, ◌≡◌, ℕ, zero, suc, ◌+◌, ◌≤◌, Bool, true, false, cond, not, ◌&&◌, ◌||◌, List, [], ◌∷◌, map, filter, length, take, All, refl, sym, ap, ◌∙◌, take_all, All-head, All-tail, list_any, list_all}
use Rattle.mp_ground_laws.proofs.Basics.{bytes_eq, Typed, Term, Variable, Object, Atom, Literal, Schema, Factor, is_declared, NamedFact, privates_of, instance_with, suits_start, fact_of, LiftedAtom, Vocabulary, OpenView, lifted_factor}
use Rattle.mp_ground_laws.proofs.Basics.{lifted_term, lifted_atom, lifted_where, is_not, is_changed, setting_of, vocabulary_of, atom_at, is_true_at_start, suits, IsChecked, named_objects, numbered_action, IsBinding, IsObject}
use Rattle.std.proofs.Common.{nat_lt}
use Rattle.std.proofs.lemmas.Bool.{le-ltb, lt-ltb}
use Rattle.std.proofs.lemmas.Bool.Decides.{nat_tests}
use Rattle.std.proofs.lemmas.List.{length-take-le}
use Rattle.std.proofs.lemmas.List.Elements.{All-weaker}
use Rattle.std.proofs.lemmas.List.Folds.{list_all-map}
use Rattle.std.proofs.lemmas.List.Sums.{AllPass-from_list_all, list_all-from_AllPass}
use Rattle.std.specs.List.{position_or_len}
use Rattle.mp_lifted.specs.declared.lifted.LiftedTerm.TheVariants.{Parameter}
use Rattle.mp_instances.specs.Instances as numbers
use Rattle.mp_instances.proofs.Narrowing.{or_true}
use Rattle.mp_ground_laws.specs.Tried.{is_known_term, is_known, cut_to}
use Rattle.mp_ground_laws.proofs.Atoms.{atom_stands}
use Rattle.mp_ground_laws.proofs.Lists.{list_all_where, map_where}
use Rattle.mp_ground_laws.proofs.Parts.{IsDeclared, IsAtom, IsSchema, HasParts, AtomOf}
use Rattle.mp_ground_laws.proofs.Starts.{same_start}

-- ---- the place of a parameter

first_place : {X : Type 0} (p : X → Bool) (n : ℕ) (xs : List X) → list_any p (take n xs) ≡ true → position_or_len p (take n xs) ≡ position_or_len p xs
first_place p zero xs h = absurd (cc)
first_place p (suc n) [] h = refl
first_place p (suc n) (x ∷ xs) h = by (p x) (first_place p n xs) h
  where
    by : (b : Bool) → (list_any p (take n xs) ≡ true → position_or_len p (take n xs) ≡ position_or_len p xs) → (b || list_any p (take n xs)) ≡ true
        → cond (not b) (1 + position_or_len p (take n xs)) 0 ≡ cond (not b) (1 + position_or_len p xs) 0
    by true rest e = refl
    by false rest e = ap (λ k. 1 + k) (rest e)

next_below : (k n : ℕ) → nat_lt (1 + k) (suc n) ≡ nat_lt k n
next_below k n = grind (arith, nat_tests)

place_within : {X : Type 0} (p : X → Bool) (n : ℕ) (xs : List X) → n ≤ length xs → nat_lt (position_or_len p xs) n ≡ list_any p (take n xs)
place_within p zero xs few = le-ltb (position_or_len p xs) 0 (omega arith)
place_within p (suc n) [] few = absurd (omega (arith, few))
place_within p (suc n) (x ∷ xs) few = by (p x) (place_within p n xs (omega (arith, few)))
  where
    by : (b : Bool) → nat_lt (position_or_len p xs) n ≡ list_any p (take n xs)
        → nat_lt (cond (not b) (1 + position_or_len p xs) 0) (suc n) ≡ (b || list_any p (take n xs))
    by true rest = lt-ltb 0 (suc n) (omega arith)
    by false rest = next_below (position_or_len p xs) n ∙ rest

-- ---- terms and atoms with objects for the first parameters

module _ (vocabulary : Vocabulary) (params : List Typed) (n : ℕ) (few : n ≤ length params) where
  abbrev first_ones : List Typed
  first_ones = take n params

  known_term : (t : Term) → numbers.is_known_term n (lifted_term vocabulary params t) ≡ is_known_term first_ones t
  known_term (Variable w) = place_within (λ (p : Typed). bytes_eq p.word.name w.name) n params few
  known_term (Object w) = refl

  -- an atom is known in numbers where it is by names
  known_atom : (l : Literal) → numbers.is_known n (lifted_atom vocabulary params l.atom) ≡ is_known first_ones l
  known_atom l =
      list_all-map (numbers.is_known_term n) (lifted_term vocabulary params) l.atom.terms
      ∙ (λ i. list_all (λ t. known_term t i) l.atom.terms)

  same_term : (t : Term) → is_known_term first_ones t ≡ true → lifted_term vocabulary first_ones t ≡ lifted_term vocabulary params t
  same_term (Variable w) h = ap Parameter (first_place (λ (p : Typed). bytes_eq p.word.name w.name) n params h)
  same_term (Object w) h = refl

  -- and it is the same for the first parameters as for all
  same_atom : (l : Literal) → is_known first_ones l ≡ true → lifted_atom vocabulary first_ones l.atom ≡ lifted_atom vocabulary params l.atom
  same_atom l h = ap (λ ts. record { symbol = (lifted_atom vocabulary params l.atom).symbol; terms = ts })
      (map_where (λ t. is_known_term first_ones t ≡ true) _ _ l.atom.terms (AllPass-from_list_all (is_known_term first_ones) l.atom.terms h) same_term)

-- ---- what a test says of some literals

all_filter : {X : Type 0} (test p : X → Bool) (xs : List X) → list_all test (filter p xs) ≡ list_all (λ x. not (p x) || test x) xs
all_filter test p [] = refl
all_filter test p (x ∷ xs) = by (p x) (all_filter test p xs)
  where
    by : (b : Bool) → list_all test (filter p xs) ≡ list_all (λ y. not (p y) || test y) xs
        → list_all test (cond b (x ∷ filter p xs) (filter p xs)) ≡ ((not b || test x) && list_all (λ y. not (p y) || test y) xs)
    by true rest = ap (λ t. test x && t) rest
    by false rest = rest

filter_all : {X : Type 0} (p : X → Bool) (xs : List X) → All (λ x. p x ≡ true) xs → filter p xs ≡ xs
filter_all p [] all = refl
filter_all p (x ∷ xs) all =
    let rest = filter_all p xs (All-tail (λ y. p y ≡ true) x xs all) in
    λ i. cond (All-head (λ y. p y ≡ true) x xs all i) (x ∷ rest i) (rest i)

of_atoms : (test : Atom → Bool) (sign : Literal → Bool) (ls : List Literal)
    → list_all test (map (λ (l : Literal). l.atom) (filter sign ls)) ≡ list_all (λ (l : Literal). not (sign l) || test l.atom) ls
of_atoms test sign ls = list_all-map test (λ (l : Literal). l.atom) (filter sign ls) ∙ all_filter (λ (l : Literal). test l.atom) sign ls

-- what is said of a static precondition that is known, and nothing of any other
by_known : (says : Bool → Bool → Bool) → ((b : Bool) → says false b ≡ true) → (changed known sign a b : Bool) → (known ≡ true → a ≡ b)
    → (not sign || (not (not changed) || says known a)) ≡ (not known || (not sign || says (not changed) b))
by_known says nothing true true sign a b same = ap (λ t. not sign || t) (sym (nothing b))
by_known says nothing true false sign a b same = or_true (not sign)
by_known says nothing false true sign a b same = ap (λ t. not sign || says true t) (same refl)
by_known says nothing false false sign a b same = ap (λ t. not sign || t) (nothing a) ∙ or_true (not sign)

-- ---- an action

declared_known : (factor : Factor) (params : List Typed) (t : Term) → IsDeclared params factor t → is_known_term params t ≡ true
unfolding is_declared
declared_known factor params (Variable w) h = h
declared_known factor params (Object w) h = refl

known_declared : (factor : Factor) (params first : List Typed) (t : Term) → is_known_term first t ≡ true → IsDeclared params factor t → IsDeclared first factor t
unfolding is_declared
known_declared factor params first (Variable w) known h = known
known_declared factor params first (Object w) known h = h

module _ (agent : ℕ) (factor : Factor) (view : OpenView) (s : Schema) (objects : List ℕ)
    (checked : IsChecked factor) (parts : HasParts factor) (h : IsSchema factor s) where
  abbrev n : ℕ
  n = length objects

  abbrev fact : Atom → NamedFact
  fact a = fact_of agent (privates_of factor) (take n s.params) (named_objects factor objects) a

  abbrev is_so : LiftedAtom → Bool
  is_so x = is_true_at_start (lifted_factor factor view) (atom_at objects x)

  module _ (range : All (IsObject factor) objects) (few : n ≤ length s.params) where
    -- a precondition that is known is true at the start in numbers where it is by names
    at_start : (l : Literal) → IsAtom s.params factor l.atom → is_known (take n s.params) l ≡ true
        → is_so (lifted_atom (vocabulary_of factor) s.params l.atom) ≡ (setting_of agent factor view).start (fact l.atom)
    at_start l is known =
        let declared : All (IsDeclared (take n s.params) factor) l.atom.terms =
        λ k d less. known_declared factor s.params (take n s.params) _ (AllPass-from_list_all _ l.atom.terms known k d less) (is.terms k d less) in
        let stands = atom_stands agent factor (take n s.params) objects l.atom (record { long = sym (length-take-le n s.params few); range = range })
        (record { named = is.named; terms = declared }) in
        ap is_so (sym (same_atom (vocabulary_of factor) s.params n few l known))
        ∙ same_start agent factor view _ checked parts stands.range ∙ ap (setting_of agent factor view).start stands.is

    static_tests : (says : Bool → Bool → Bool) → ((b : Bool) → says false b ≡ true) → (sign : Literal → Bool)
        → list_all (λ x. says (numbers.is_known n x) (is_so x))
        (lifted_where (vocabulary_of factor) (is_not (is_changed factor view)) s.params (map (λ (l : Literal). l.atom) (filter sign s.pre)))
        ≡ list_all (λ (f : NamedFact). says (not (is_changed factor view f.predicate)) ((setting_of agent factor view).start f))
        (map fact (map (λ (l : Literal). l.atom) (filter sign (filter (is_known (take n s.params)) s.pre))))
    static_tests says nothing sign =
        let p : LiftedAtom → Bool = λ x. says (numbers.is_known n x) (is_so x) in
        let q : NamedFact → Bool = λ f. says (not (is_changed factor view f.predicate)) ((setting_of agent factor view).start f) in
        let lifted : Atom → LiftedAtom = lifted_atom (vocabulary_of factor) s.params in
        list_all-map p lifted _ ∙ all_filter (λ a. p (lifted a)) (λ (a : Atom). not (is_changed factor view a.word.name)) _
        ∙ of_atoms _ sign s.pre
        ∙ list_all_where (AtomOf (IsAtom s.params factor)) _ _ s.pre h.pre.all (λ l is.
        (λ i. not (sign l) || (not (not (is_changed factor view l.atom.word.name))
        || says (known_atom (vocabulary_of factor) s.params n few l i) (is_so (lifted l.atom))))
        ∙ by_known says nothing (is_changed factor view l.atom.word.name) (is_known (take n s.params) l) (sign l) _ _ (at_start l is))
        ∙ sym (list_all-map q fact _ ∙ of_atoms (λ a. q (fact a)) sign _ ∙ all_filter _ (is_known (take n s.params)) s.pre)

    -- objects for the first parameters suit the start where the instance of the action that is cut to these does
    pub suits_cut : (cost : ℕ) → suits (lifted_factor factor view) (numbered_action factor view s) objects
        ≡ suits_start (setting_of agent factor view) (instance_with agent factor (cut_to (length objects) s) (named_objects factor objects) cost)
    suits_cut cost =
        λ i. static_tests (λ k b. not k || b) (λ b. refl) (λ (l : Literal). l.positive) i
        && static_tests (λ k b. not (k && b)) (λ b. refl) (λ (l : Literal). not l.positive) i

  -- an action suits the start with objects for all its parameters where its instance does
  pub same_suits : (cost : ℕ) → IsBinding factor s.params objects → suits (lifted_factor factor view) (numbered_action factor view s) objects
      ≡ suits_start (setting_of agent factor view) (instance_with agent factor s (named_objects factor objects) cost)
  same_suits cost b =
      let long = b.long in
      let whole = take_all n s.params (omega (arith, long)) in
      let known = All-weaker (AtomOf (IsAtom s.params factor)) (λ l. is_known s.params l ≡ true)
      (λ l is. list_all-from_AllPass (is_known_term s.params) l.atom.terms (λ k d less. declared_known factor s.params _ (is.terms k d less))) s.pre h.pre.all in
      let all = ap (λ ps. filter (is_known ps) s.pre) whole ∙ filter_all (is_known s.params) s.pre known in
      suits_cut b.range (omega (arith, long)) cost
      ∙ (λ i. suits_start (setting_of agent factor view) (instance_with agent factor
      (record { word = s.word; params = whole i; pre = all i; add = []; del = []; increases = [] }) (named_objects factor objects) cost))
