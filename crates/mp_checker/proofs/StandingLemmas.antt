-- Flags of objects by place tell which objects may stand for parameters.
use Rattle.std.proofs.Common.{◌≡◌, ℕ, suc, ◌+◌, ◌<◌, Bool, true, false, ◌&&◌, ◌||◌, eqb, List, [], ◌∷◌, ◌++◌, map, length, get_or, Option, Some, None, refl, sym, ap, subst, ◌∙◌, arith, inl, inr}
use Rattle.std.specs.List.{list_any, position_from}
use Rattle.std.specs.Option.{option_map_or, is_some}
use Rattle.std.specs.Prelude.{fold, find, replicate, slice_get, slice_set}
use Rattle.std.specs.Str.{bytes_eq}
use Rattle.std.proofs.lemmas.Bool.{cases_Bool, and_parts, eqb-true, eq-eqb, eqb-false, false≢true}
use Rattle.std.proofs.lemmas.List.{get_or-set_same, get_or-set_other, length-set, length-replicate, get_or-replicate, get_or-map, map-append}
use Rattle.std.proofs.lemmas.Option.{same_Some, slice_get_within}
use Rattle.mp_list.proofs.Bools.{same_tests}
use Rattle.mp_list.proofs.Members.{any_from, some_member}
use Rattle.mp_forms.specs.declared.typed_values.Typed.{Typed}
use Rattle.mp_forms.specs.declared.factor.Factor.{Factor}
use Rattle.mp_sexp.specs.Numbers.{is_named, number_in, place_in}
use Rattle.mp_sexp.proofs.NamesAt.{name_at_number, number_below}
use Rattle.mp_sexp.proofs.Places.{has_place, is_name}
use Rattle.mp_typing.specs.Names.{names_of}
use Rattle.mp_typing.specs.ObjectList.{object_list}
use Rattle.mp_typing.specs.Places.{numbers_where}
use Rattle.mp_typing.specs.Under.{is_of_type}
use Rattle.mp_typing.proofs.Placing.{passing_place, place_passes}
use Rattle.mp_joint.specs.Fact.{Text}
use Rattle.mp_joint.specs.FactorContribution.{declared_objects, may_stand, may_stand_for}
use Rattle.mp_lifting.specs.Vocabulary.{declared_names}
use Rattle.mp_lifting.proofs.DeclaredNames.{first_named}
use Rattle.mp_checker.specs.declared.numbered.ObjectNumber.{ObjectNumber}
use Rattle.mp_checker.specs.AgentView.{Covers, AreKnown}
use Rattle.mp_checker.specs.At.{nothing}
use Rattle.mp_checker.specs.Numbering.{flags_at, member_flags}
use Rattle.mp_checker.specs.Standing.{is_flagged, are_flagged, numbers_at}
use Rattle.mp_checker.specs.Words.{names_of_factor}
use Rattle.mp_checker.proofs.CoversLemmas.{covers_left}

-- ---- flags

abbrev set_all : List Bool → List ℕ → List Bool
set_all flags numbers = fold (λ (fs : List Bool) (n : ℕ). slice_set fs n true) flags numbers

abbrev has : List ℕ → ℕ → Bool
has numbers k = list_any (λ n. eqb n k) numbers

set_one : (flags : List Bool) (n k : ℕ) → k < length flags → get_or (slice_set flags n true) k false ≡ (eqb n k || get_or flags k false)
set_one flags n k lt =
    elim (cases_Bool (eqb n k)) [
      | inl same ↦
          let is : n ≡ k = eqb-true n k same in
          subst (λ m. get_or (slice_set flags m true) k false ≡ true) (sym is) (get_or-set_same flags k true false lt)
          ∙ sym (ap (λ b. b || get_or flags k false) same)
      | inr other ↦
          get_or-set_other flags n k true false (λ e. eqb-false n k other (sym e))
          ∙ sym (ap (λ b. b || get_or flags k false) other)
    ]

either : (a b c : Bool) → (b || (a || c)) ≡ ((a || b) || c)
either true true c = refl
either true false c = refl
either false b c = refl

flag_after : (numbers : List ℕ) (flags : List Bool) (k : ℕ) → k < length flags
    → get_or (set_all flags numbers) k false ≡ (has numbers k || get_or flags k false)
flag_after [] flags k lt = refl
flag_after (n ∷ ns) flags k lt =
    flag_after ns (slice_set flags n true) k (subst (λ m. k < m) (sym (length-set flags n true)) lt)
    ∙ ap (λ b. has ns k || b) (set_one flags n k lt)
    ∙ either (eqb n k) (has ns k) (get_or flags k false)

or_none : (a b : Bool) → b ≡ false → (a || b) ≡ a
or_none true b h = refl
or_none false b h = h

flag_is : (count : ℕ) (numbers : List ℕ) (k : ℕ) → k < count → get_or (flags_at count numbers) k false ≡ has numbers k
flag_is count numbers k lt =
    flag_after numbers (replicate count false) k (subst (λ m. k < m) (sym (length-replicate count false)) lt)
    ∙ or_none (has numbers k) (get_or (replicate count false) k false) (get_or-replicate count k false false lt)

-- the places of items that pass a test
placed : (test : Typed → Bool) (objects : List Typed) (k : ℕ) (o : Typed) → slice_get objects k ≡ Some o
    → has (numbers_where 0 test objects) k ≡ test o
placed test objects k o at =
    let numbers = numbers_where 0 test objects in
    same_tests (has numbers k) (test o)
    (λ h.
    let (n, found, same) = some_member (λ m. eqb m k) numbers h in
    let (t, there, ok) = place_passes test objects n found in
    let t_is : t ≡ o = same_Some t o (sym there ∙ ap (slice_get objects) (eqb-true n k same) ∙ at) in
    subst (λ x. test x ≡ true) t_is ok)
    (λ h. any_from (λ m. eqb m k) numbers k (passing_place test objects k o at h) (eq-eqb k k refl))

flag_of : (factor : Factor) (param : Typed) (k : ℕ) (o : Typed) → slice_get (object_list factor.domain factor.problem) k ≡ Some o
    → get_or (member_flags factor param) k false ≡ is_of_type factor.domain.types (names_of param.types) o
flag_of factor param k o at =
    let objects = object_list factor.domain factor.problem in
    let test = is_of_type factor.domain.types (names_of param.types) in
    flag_is (length objects) (numbers_where 0 test objects) k (slice_get_within objects k o at) ∙ placed test objects k o at

-- ---- an object by its name

abbrev names_in : List Typed → List Text
names_in ts = map (λ (o : Typed). o.word.name) ts

looked_up : (flags : List Bool) (test : Typed → Bool) (name : Text) (objects : List Typed) (n : ℕ)
    → ((k : ℕ) (o : Typed) → slice_get objects k ≡ Some o → get_or flags (n + k) false ≡ test o)
    → option_map_or (λ place. get_or flags place false) (position_from (is_name name) n (names_in objects)) false
    ≡ option_map_or test (find (λ (o : Typed). bytes_eq o.word.name name) objects) false
looked_up flags test name [] n each = refl
looked_up flags test name (o ∷ os) n each =
    elim (cases_Bool (bytes_eq o.word.name name)) [
      | inl here ↦
          let e : n + 0 ≡ n = omega arith in
          rw here (subst (λ m. get_or flags m false ≡ test o) e (each 0 o refl))
      | inr other ↦
          rw other (looked_up flags test name os (n + 1)
          (λ k p at. let e : n + suc k ≡ (n + 1) + k = omega arith in subst (λ m. get_or flags m false ≡ test p) e (each (suc k) p at)))
    ]

flagged : (factor : Factor) (param : Typed) (name : Text)
    → is_flagged (names_in (object_list factor.domain factor.problem)) (member_flags factor param) name ≡ may_stand factor param name
flagged factor param name =
    let test = is_of_type factor.domain.types (names_of param.types) in
    looked_up (member_flags factor param) test name (object_list factor.domain factor.problem) 0
    (λ k o at. let e : k ≡ 0 + k = omega arith in subst (λ m. get_or (member_flags factor param) m false ≡ test o) e (flag_of factor param k o at))

-- one for each parameter
pub all_flagged : (factor : Factor) (params : List Typed) (objects : List Text)
    → are_flagged (names_in (object_list factor.domain factor.problem)) (map (member_flags factor) params) objects
    ≡ may_stand_for factor params objects
all_flagged factor [] [] = refl
all_flagged factor [] (o ∷ os) = refl
all_flagged factor (p ∷ ps) [] = refl
all_flagged factor (p ∷ ps) (o ∷ os) = λ i. flagged factor p o i && all_flagged factor ps os i

-- ---- objects that stand are known

is_there : (objects : List Text) (flags : List Bool) (name : Text) → is_flagged objects flags name ≡ true → is_named objects name ≡ true
is_there objects flags name h =
    sym (has_place name 0 objects) ∙ by (place_in objects name) h
  where
    by : (o : Option ℕ) → option_map_or (λ place. get_or flags place false) o false ≡ true → is_some o ≡ true
    by None h = absurd (false≢true h)
    by (Some n) h = refl

pub all_there : (objects : List Text) (members : List (List Bool)) (names : List Text) → are_flagged objects members names ≡ true → AreKnown objects names
all_there objects [] [] h = tt
all_there objects [] (n ∷ ns) h = absurd (false≢true h)
all_there objects (m ∷ ms) [] h = absurd (false≢true h)
all_there objects (m ∷ ms) (n ∷ ns) h =
    let parts = and_parts (is_flagged objects m n) (are_flagged objects ms ns) h in
    (is_there objects m n parts.0, all_there objects ms ns parts.1)

pub as_many : (objects : List Text) (members : List (List Bool)) (names : List Text) → are_flagged objects members names ≡ true → length names ≡ length members
as_many objects [] [] h = refl
as_many objects [] (n ∷ ns) h = absurd (false≢true h)
as_many objects (m ∷ ms) [] h = absurd (false≢true h)
as_many objects (m ∷ ms) (n ∷ ns) h = ap suc (as_many objects ms ns (and_parts (is_flagged objects m n) (are_flagged objects ms ns) h).1)

pub numbers_are : (objects : List Text) (number : Text → ObjectNumber) (names : List Text) → AreKnown objects names
    → numbers_at objects (map number objects) names ≡ map number names
numbers_are objects number [] known = refl
numbers_are objects number (n ∷ ns) known =
    let here : get_or (map number objects) (number_in objects n) nothing ≡ number n =
    get_or-map number objects (number_in objects n) [] nothing (number_below objects n known.0) ∙ ap number (name_at_number objects n known.0) in
    λ i. here i ∷ numbers_are objects number ns known.1 i

-- the names of a team have those of a factor's objects
of_objects : (names : List Text) (factor : Factor) → Covers names (names_of_factor factor)
    → Covers names (names_in factor.domain.constants ++ names_in factor.problem.objects)
of_objects names factor c = covers_left names _ _ (covers_left names _ _ (covers_left names _ _ c))

pub known_in_team : (names : List Text) (factor : Factor) (objects : List Text) → Covers names (names_of_factor factor)
    → AreKnown (declared_names (declared_objects factor)) objects → AreKnown names objects
known_in_team names factor [] c known = tt
known_in_team names factor (o ∷ os) c known =
    let declared : is_named (names_in (declared_objects factor)) o ≡ true = sym (first_named (declared_objects factor) o) ∙ known.0 in
    let parted : is_named (names_in factor.domain.constants ++ names_in factor.problem.objects) o ≡ true =
    ap (λ ns. is_named ns o) (sym (map-append (λ (t : Typed). t.word.name) factor.domain.constants factor.problem.objects)) ∙ declared in
    (of_objects names factor c o parted, known_in_team names factor os c known.1)
