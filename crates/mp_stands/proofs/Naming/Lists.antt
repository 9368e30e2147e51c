-- Lists that are mapped, filtered and looked through.
use Rattle.std.proofs.Common.{◌≡◌, ℕ, ◌+◌, zero, suc, Bool, true, false, cond, not, ◌||◌, List, [], ◌∷◌, ◌++◌, map, filter, All, Some, slice_get, slice_index_or, flat_map, if◌then◌else◌, refl, ap, ◌∙◌, inl, inr}
use Rattle.std.specs.List.{list_any, position_from, position_or_len}
use Rattle.std.proofs.lemmas.Bool.{cases_Bool}
use Rattle.std.proofs.lemmas.List.{map-append}
use Rattle.std.proofs.lemmas.List.Elements.{All-nil, All-cons, All-head, All-tail, All-append}
use Rattle.std.proofs.lemmas.Option.{same_Some}
use Rattle.mp_typing.specs.Places.{numbers_where}

pub map_of_map : {X Y Z : Type 0} (f : Y → Z) (g : X → Y) (xs : List X) → map f (map g xs) ≡ map (λ x. f (g x)) xs
map_of_map f g [] = refl
map_of_map f g (x ∷ xs) = ap (λ zs. f (g x) ∷ zs) (map_of_map f g xs)

-- items of which the same is made
pub map_same : {X Y : Type 0} (P : X → Type 0) (f g : X → Y) (xs : List X) → All P xs → ((x : X) → P x → f x ≡ g x)
    → map f xs ≡ map g xs
map_same P f g [] all same = refl
map_same P f g (x ∷ xs) all same =
    λ i. same x (All-head P x xs all) i ∷ map_same P f g xs (All-tail P x xs all) same i

-- items that pass the same test
pub filter_same : {X : Type 0} (P : X → Type 0) (p q : X → Bool) (xs : List X) → All P xs → ((x : X) → P x → p x ≡ q x)
    → filter p xs ≡ filter q xs
filter_same P p q [] all same = refl
filter_same P p q (x ∷ xs) all same =
    λ i.
    cond (same x (All-head P x xs all) i)
    (x ∷ filter_same P p q xs (All-tail P x xs all) same i)
    (filter_same P p q xs (All-tail P x xs all) same i)

pub any_of_map : {X Y : Type 0} (test : Y → Bool) (f : X → Y) (xs : List X)
    → list_any test (map f xs) ≡ list_any (λ x. test (f x)) xs
any_of_map test f [] = refl
any_of_map test f (x ∷ xs) = ap (λ b. test (f x) || b) (any_of_map test f xs)

-- ---- places

pub position_of_map : {X Y : Type 0} (test : Y → Bool) (f : X → Y) (from : ℕ) (xs : List X)
    → position_from test from (map f xs) ≡ position_from (λ x. test (f x)) from xs
position_of_map test f from [] = refl
position_of_map test f from (x ∷ xs) = ap (λ o. cond (test (f x)) (Some from) o) (position_of_map test f (from + 1) xs)

pub place_of_map : {X Y : Type 0} (test : Y → Bool) (f : X → Y) (xs : List X)
    → position_or_len test (map f xs) ≡ position_or_len (λ x. test (f x)) xs
place_of_map test f [] = refl
place_of_map test f (x ∷ xs) = ap (λ n. cond (not (test (f x))) (1 + n) 0) (place_of_map test f xs)

pub numbers_of_map : {X Y : Type 0} (test : Y → Bool) (f : X → Y) (place : ℕ) (xs : List X)
    → numbers_where place test (map f xs) ≡ numbers_where place (λ x. test (f x)) xs
unfolding numbers_where
numbers_of_map test f place [] = refl
numbers_of_map test f place (x ∷ xs) =
    ap (λ ns. if test (f x) then place ∷ ns else ns) (numbers_of_map test f (suc place) xs)

-- ---- items that pass a test

-- they are left as they are, where each one is
pub passing_stay : {X : Type 0} (P : X → Type 0) (f : X → X) (test : X → Bool) (xs : List X) → All P xs
    → ((x : X) → P x → test x ≡ true → f x ≡ x) → map f (filter test xs) ≡ filter test xs
passing_stay P f test [] all stays = refl
passing_stay P f test (x ∷ xs) all stays =
    let rest = passing_stay P f test xs (All-tail P x xs all) stays in
    elim (cases_Bool (test x)) [
      | inl passes ↦ rw passes (λ i. stays x (All-head P x xs all) passes i ∷ rest i)
      | inr fails ↦ rw fails rest
    ]

-- of two things that are made of each item the same ones pass, and those are equal
pub passing_same : {X Y : Type 0} (P : X → Type 0) (f g : X → Y) (test : Y → Bool) (xs : List X) → All P xs
    → ((x : X) → P x → test (f x) ≡ test (g x)) → ((x : X) → P x → test (g x) ≡ true → f x ≡ g x)
    → filter test (map f xs) ≡ filter test (map g xs)
passing_same P f g test [] all tests same = refl
passing_same P f g test (x ∷ xs) all tests same =
    let here = All-head P x xs all in
    let rest = passing_same P f g test xs (All-tail P x xs all) tests same in
    elim (cases_Bool (test (g x))) [
      | inl passes ↦ rw (tests x here ∙ passes, passes) (λ i. same x here passes i ∷ rest i)
      | inr fails ↦ rw (tests x here ∙ fails, fails) rest
    ]

-- ---- what holds of each item

pub all_mapped : {X Y : Type 0} (P : X → Type 0) (Q : Y → Type 0) (f : X → Y) (xs : List X) → All P xs
    → ((x : X) → P x → Q (f x)) → All Q (map f xs)
all_mapped P Q f [] all each = All-nil Q
all_mapped P Q f (x ∷ xs) all each =
    All-cons Q (f x) (map f xs) (each x (All-head P x xs all)) (all_mapped P Q f xs (All-tail P x xs all) each)

pub all_parts : {X Y : Type 0} (P : X → Type 0) (Q : Y → Type 0) (f : X → List Y) (xs : List X) → All P xs
    → ((x : X) → P x → All Q (f x)) → All Q (flat_map f xs)
all_parts P Q f [] all each = All-nil Q
all_parts P Q f (x ∷ xs) all each =
    All-append Q (f x) (flat_map f xs) (each x (All-head P x xs all)) (all_parts P Q f xs (All-tail P x xs all) each)

-- lists that are made of items and joined
pub map_of_parts : {X Y Z : Type 0} (f : Y → Z) (g : X → List Y) (xs : List X)
    → map f (flat_map g xs) ≡ flat_map (λ x. map f (g x)) xs
map_of_parts f g [] = refl
map_of_parts f g (x ∷ xs) = map-append f (g x) (flat_map g xs) ∙ ap (λ zs. map f (g x) ++ zs) (map_of_parts f g xs)

-- the item at a place is left as it is
pub stays_at : {X : Type 0} (d : X) (f : X → X) (test : X → Bool) (xs : List X) (n : ℕ)
    → All (λ x. test x ≡ false → f x ≡ x) xs
    → slice_get (map test xs) n ≡ Some false → slice_index_or (map f xs) n d ≡ slice_index_or xs n d
stays_at d f test [] n all at = refl
stays_at d f test (x ∷ xs) zero all at =
    All-head (λ y. test y ≡ false → f y ≡ y) x xs all (same_Some (test x) false at)
stays_at d f test (x ∷ xs) (suc n) all at =
    stays_at d f test xs n (All-tail (λ y. test y ≡ false → f y ≡ y) x xs all) at
