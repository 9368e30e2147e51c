-- Lists that are mapped and filtered.
use Rattle.mp_ground_laws.proofs.Basics.{arith, ◌≡◌, ℕ, suc, ◌+◌, Bool, cond, List, [], ◌∷◌, map, filter, All, Option, Some, None, slice_get, if◌then◌else◌, refl, sym, ap, ◌∙◌, inl, inr, cases_Bool, All-nil, All-cons, All-append, All-head, All-tail, flat_map, list_all, filter_map, cons_option, option_map}
use Rattle.std.proofs.lemmas.List.Folds.{list_all-map}

pub filter_of_map : {X Y : Type 0} (f : X → Y) (test : Y → Bool) (xs : List X) → filter test (map f xs) ≡ map f (filter (λ x. test (f x)) xs)
filter_of_map f test [] = refl
filter_of_map f test (x ∷ xs) =
    elim (cases_Bool (test (f x))) [
      | inl taken ↦ rw taken (ap (λ ys. f x ∷ ys) (filter_of_map f test xs))
      | inr left ↦ rw left (filter_of_map f test xs)
    ]

-- ---- the same of each of some items

pub map_where : {X Y : Type 0} (P : X → Type 0) (f g : X → Y) (xs : List X) → All P xs → ((x : X) → P x → f x ≡ g x) → map f xs ≡ map g xs
map_where P f g [] all same = refl
map_where P f g (x ∷ xs) all same = λ i. same x (All-head P x xs all) i ∷ map_where P f g xs (All-tail P x xs all) same i

pub list_all_where : {X : Type 0} (P : X → Type 0) (p q : X → Bool) (xs : List X) → All P xs → ((x : X) → P x → p x ≡ q x) → list_all p xs ≡ list_all q xs
list_all_where P p q xs all same = sym (list_all-map (λ b. b) p xs) ∙ ap (list_all (λ b. b)) (map_where P p q xs all same) ∙ list_all-map (λ b. b) q xs

pub filter_where : {X : Type 0} (P : X → Type 0) (p q : X → Bool) (xs : List X) → All P xs → ((x : X) → P x → p x ≡ q x) → filter p xs ≡ filter q xs
filter_where P p q [] all same = refl
filter_where P p q (x ∷ xs) all same =
    let rest = filter_where P p q xs (All-tail P x xs all) same in
    λ i. cond (same x (All-head P x xs all) i) (x ∷ rest i) (rest i)

pub given_same : {X Y : Type 0} (P : X → Type 0) (g h : X → Option Y) (xs : List X) → All P xs → ((x : X) → P x → g x ≡ h x) → filter_map g xs ≡ filter_map h xs
given_same P g h [] all same = refl
given_same P g h (x ∷ xs) all same = λ i. cons_option (same x (All-head P x xs all) i) (given_same P g h xs (All-tail P x xs all) same i)

-- ---- all of what items give

pub all_parts : {X Y : Type 0} (Q : X → Type 0) (P : Y → Type 0) (f : X → List Y) (xs : List X) → All Q xs → ((x : X) → Q x → All P (f x))
    → All P (flat_map f xs)
all_parts Q P f [] all each = All-nil P
all_parts Q P f (x ∷ xs) all each =
    All-append P (f x) (flat_map f xs) (each x (All-head Q x xs all)) (all_parts Q P f xs (All-tail Q x xs all) each)

pub given_one : {Y : Type 0} (P : Y → Type 0) (o : Option Y) (ys : List Y) → ((y : Y) → o ≡ Some y → P y) → All P ys → All P (cons_option o ys)
given_one P None ys here rest = rest
given_one P (Some y) ys here rest = All-cons P y ys (here y refl) rest

pub all_given : {X Y : Type 0} (Q : X → Type 0) (P : Y → Type 0) (h : X → Option Y) (xs : List X) → All Q xs
    → ((x : X) → Q x → (y : Y) → h x ≡ Some y → P y) → All P (filter_map h xs)
all_given Q P h [] all each = All-nil P
all_given Q P h (x ∷ xs) all each =
    given_one P (h x) (filter_map h xs) (each x (All-head Q x xs all)) (all_given Q P h xs (All-tail Q x xs all) each)

-- ---- items with their places

-- what holds of nothing from any place on, and of one item more in front, at its place, holds of a list from 0 on
pub by_places : {X : Type 0} (all : List X) (P : ℕ → List X → Type 0) → ((from : ℕ) → P from [])
    → ((from : ℕ) (x : X) (xs : List X) → slice_get all from ≡ Some x → P (from + 1) xs → P from (x ∷ xs)) → P 0 all
by_places {X} all P none more = on 0 all (λ i. ap (slice_get all) (let e : 0 + i ≡ i = omega arith in e))
  where
    on : (from : ℕ) (xs : List X) → ((i : ℕ) → slice_get all (from + i) ≡ slice_get xs i) → P from xs
    on from [] there = none from
    on from (x ∷ xs) there =
        more from x xs (ap (slice_get all) (let e : from ≡ from + 0 = omega arith in e) ∙ there 0)
        (on (from + 1) xs (λ i. ap (slice_get all) (let e : (from + 1) + i ≡ from + suc i = omega arith in e) ∙ there (suc i)))

-- ---- what items give

mapped_option : {Y Z : Type 0} (f : Y → Z) (o : Option Y) (rest : List Y) (others : List Z) → map f rest ≡ others
    → map f (cons_option o rest) ≡ cons_option (option_map f o) others
mapped_option f None rest others same = same
mapped_option f (Some y) rest others same = ap (λ ys. f y ∷ ys) same

-- what is given of the items that pass, and what becomes of it
pub map_of_some : {X Y Z : Type 0} (f : Y → Z) (h : X → Option Y) (test : X → Bool) (xs : List X)
    → map f (filter_map h (filter test xs)) ≡ filter_map (λ x. option_map f (if test x then h x else None)) xs
map_of_some f h test [] = refl
map_of_some f h test (x ∷ xs) =
    elim (cases_Bool (test x)) [
      | inl taken ↦ rw taken (mapped_option f (h x) _ _ (map_of_some f h test xs))
      | inr left ↦ rw left (map_of_some f h test xs)
    ]

pub map_of_given : {X Y Z : Type 0} (f : Y → Z) (h : X → Option Y) (xs : List X) → map f (filter_map h xs) ≡ filter_map (λ x. option_map f (h x)) xs
map_of_given f h [] = refl
map_of_given f h (x ∷ xs) = mapped_option f (h x) _ _ (map_of_given f h xs)

pub given_of_map : {X Y Z : Type 0} (f : X → Y) (h : Y → Option Z) (xs : List X) → filter_map h (map f xs) ≡ filter_map (λ x. h (f x)) xs
given_of_map f h [] = refl
given_of_map f h (x ∷ xs) = ap (λ ys. cons_option (h (f x)) ys) (given_of_map f h xs)
