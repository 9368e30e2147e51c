-- Names, and the same names by a one-to-one map: what is found among them, and where.
use Rattle.std.proofs.Common.{◌≡◌, Bool, true, false, not, ◌||◌, List, [], ◌∷◌, map, filter, length, All, refl, sym, ap, ◌∙◌, inl, inr}
use Rattle.std.specs.List.{list_any, position_from}
use Rattle.std.specs.Option.{option_map_or}
use Rattle.std.specs.Str.{bytes_eq}
use Rattle.std.proofs.lemmas.Bool.{cases_Bool, or_cases, or_left, or_parts, or_right}
use Rattle.std.proofs.lemmas.List.{length-map}
use Rattle.std.proofs.lemmas.List.Elements.{All-nil, All-cons}
use Rattle.std.proofs.lemmas.Slice.Eq.{bytes_eq-Decides}
use Rattle.mp_list.proofs.Bools.{same_tests}
use Rattle.mp_sexp.specs.Numbers.{number_in, place_in}
use Rattle.mp_joint.specs.Fact.{Text, is_listed}
use Rattle.mp_stands.specs.Renaming.{IsOneToOne}
use Rattle.mp_stands.proofs.Naming.Lists.{any_of_map, map_of_map, position_of_map}

pub itself : (a : Text) → bytes_eq a a ≡ true
itself a = (bytes_eq-Decides a a).1 refl

module _ (other : Text → Text) (one : IsOneToOne other) where
  pub same_test : (a b : Text) → bytes_eq (other a) (other b) ≡ bytes_eq a b
  same_test a b =
      same_tests _ _ (λ h. (bytes_eq-Decides a b).1 (one a b ((bytes_eq-Decides (other a) (other b)).0 h)))
      (λ h. (bytes_eq-Decides (other a) (other b)).1 (ap other ((bytes_eq-Decides a b).0 h)))

  pub listed_same : (name : Text) (names : List Text) → is_listed (other name) (map other names) ≡ is_listed name names
  listed_same name names =
      any_of_map (bytes_eq (other name)) other names ∙ (λ i. list_any (λ n. same_test name n i) names)

  pub any_listed_same : (names args : List Text)
      → list_any (λ a. is_listed a (map other names)) (map other args) ≡ list_any (λ a. is_listed a names) args
  any_listed_same names args =
      any_of_map (λ a. is_listed a (map other names)) other args ∙ (λ i. list_any (λ a. listed_same a names i) args)

  pub numbered_same : (names : List Text) (name : Text)
      → number_in (map other names) (other name) ≡ number_in names name
  unfolding number_in
  numbered_same names name =
      let found = position_of_map (λ n. bytes_eq n (other name)) other 0 names
      ∙ (λ i. position_from (λ n. same_test n name i) 0 names) in
      ap (λ o. option_map_or (λ p. p) o (length (map other names))) found
      ∙ ap (λ n. option_map_or (λ p. p) (place_in names name) n) (length-map names other)

-- ---- names of some items

-- items that are changed, of which those that pass a test are the same ones
pub names_of_some : {X : Type 0} (name : X → Text) (test : X → Bool) (change : X → X) (other : Text → Text)
    (xs : List X)
    → ((x : X) → test (change x) ≡ test x) → ((x : X) → name (change x) ≡ other (name x))
    → map name (filter test (map change xs)) ≡ map other (map name (filter test xs))
names_of_some name test change other [] tests names = refl
names_of_some name test change other (x ∷ xs) tests names =
    let rest = names_of_some name test change other xs tests names in
    elim (cases_Bool (test x)) [
      | inl passes ↦ rw (tests x ∙ passes, passes) (λ i. names x i ∷ rest i)
      | inr fails ↦ rw (tests x ∙ fails, fails) rest
    ]

pub names_of_all : {X : Type 0} (name : X → Text) (change : X → X) (other : Text → Text) (xs : List X)
    → ((x : X) → name (change x) ≡ other (name x)) → map name (map change xs) ≡ map other (map name xs)
names_of_all name change other xs names =
    map_of_map name change xs ∙ (λ i. map (λ x. names x i) xs) ∙ sym (map_of_map other name xs)

-- a name of an item that is not among the names of those that pass is among those of the others
pub listed_other : {X : Type 0} (name : X → Text) (test : X → Bool) (n : Text) (xs : List X)
    → is_listed n (map name xs) ≡ true → is_listed n (map name (filter test xs)) ≡ false
    → is_listed n (map name (filter (λ x. not (test x)) xs)) ≡ true
listed_other name test n [] there absent = there
listed_other name test n (x ∷ xs) there absent =
    elim (cases_Bool (test x)) [
      | inl passes ↦
          let apart = or_parts (bytes_eq n (name x)) (is_listed n (map name (filter test xs))) (rw passes at absent) in
          let behind = sym (ap (λ b. b || is_listed n (map name xs)) apart.0) ∙ there in
          rw passes (listed_other name test n xs behind apart.1)
      | inr fails ↦
          rw fails
          (elim (or_cases (bytes_eq n (name x)) (is_listed n (map name xs)) there) [
            | inl here ↦ or_left (bytes_eq n (name x)) (is_listed n (map name (filter (λ y. not (test y)) xs))) here
            | inr behind ↦
                or_right (bytes_eq n (name x)) (is_listed n (map name (filter (λ y. not (test y)) xs)))
                (listed_other name test n xs behind (rw fails at absent))
          ])
    ]

-- what holds of each name that is listed holds of all
pub all_listed : (P : Text → Type 0) (names : List Text) → ((n : Text) → is_listed n names ≡ true → P n) → All P names
all_listed P [] each = All-nil P
all_listed P (n ∷ names) each =
    All-cons P n names (each n (or_left (bytes_eq n n) (is_listed n names) (itself n)))
    (all_listed P names (λ m there. each m (or_right (bytes_eq m n) (is_listed m names) there)))
