-- Pairs of items of joined and mapped lists, and members of what is taken of a list.
use Rattle.std.proofs.Common.{◌≡◌, ℕ, zero, suc, ◌<◌, Bool, true, false, cond, List, [], ◌∷◌, ◌++◌, map, take, Some, All, refl, sym, ap, subst, ◌∙◌, arith, inl, inr}
use Rattle.std.specs.Prelude.{AllPairs, Contains, filter, slice_get}
use Rattle.std.specs.List.{flat_map}
use Rattle.std.proofs.lemmas.List.Elements.{All-append, All-cons}
use Rattle.std.proofs.lemmas.List.Kept.{AllPairs-cons}
use Rattle.std.proofs.lemmas.Option.{none-some, same_Some}
use Rattle.mp_list.proofs.Members.{contains_cases, contains_head, contains_tail, no_member, from_flat_map, from_map}

pub all_by : {X : Type 0} (P : X → Type 0) (xs : List X) → ((x : X) → Contains xs x → P x) → All P xs
all_by P [] each = λ k d h. absurd (omega arith)
all_by P (x ∷ xs) each = All-cons P x xs (each x (contains_head x xs)) (all_by P xs (λ y there. each y (contains_tail x xs y there)))

module _ {X : Type 0} (R : X → X → Type 0) where
  pub no_pairs : AllPairs R []
  no_pairs = λ i j d lt h. absurd (omega arith)

  pub pairs_head : (x : X) (xs : List X) → AllPairs R (x ∷ xs) → (y : X) → Contains xs y → R x y
  pairs_head x xs pairs y (k, lt, is) = subst (R x) is (pairs 0 (suc k) y (omega arith) (omega (arith, lt)))

  pub pairs_tail : (x : X) (xs : List X) → AllPairs R (x ∷ xs) → AllPairs R xs
  pairs_tail x xs pairs = λ i j d lt h. pairs (suc i) (suc j) d (omega (arith, lt)) (omega (arith, h))

  pub pairs_cons : (x : X) (xs : List X) → ((y : X) → Contains xs y → R x y) → AllPairs R xs → AllPairs R (x ∷ xs)
  pairs_cons x xs first others = AllPairs-cons R x xs (all_by (R x) xs first) others

  -- another relation that follows for members
  pub pairs_with : (S : X → X → Type 0) (xs : List X) → ((x y : X) → Contains xs x → Contains xs y → R x y → S x y) → AllPairs R xs → AllPairs S xs
  pairs_with S [] follows pairs = λ i j d lt h. absurd (omega arith)
  pairs_with S (x ∷ xs) follows pairs =
      AllPairs-cons S x xs
      (all_by (S x) xs (λ y there. follows x y (contains_head x xs) (contains_tail x xs y there) (pairs_head x xs pairs y there)))
      (pairs_with S xs (λ a b a_there b_there. follows a b (contains_tail x xs a a_there) (contains_tail x xs b b_there)) (pairs_tail x xs pairs))

  pub pairs_append : (xs ys : List X) → AllPairs R xs → AllPairs R ys → ((x y : X) → Contains xs x → Contains ys y → R x y) → AllPairs R (xs ++ ys)
  pairs_append [] ys pairs others across = others
  pairs_append (x ∷ xs) ys pairs others across =
      AllPairs-cons R x (xs ++ ys)
      (All-append (R x) xs ys (all_by (R x) xs (pairs_head x xs pairs)) (all_by (R x) ys (λ y there. across x y (contains_head x xs) there)))
      (pairs_append xs ys (pairs_tail x xs pairs) others (λ a y here there. across a y (contains_tail x xs a here) there))

  pub pairs_take : (k : ℕ) (xs : List X) → AllPairs R xs → AllPairs R (take k xs)
  pairs_take zero xs pairs = no_pairs
  pairs_take (suc k) [] pairs = no_pairs
  pairs_take (suc k) (x ∷ xs) pairs =
      pairs_cons x (take k xs) (λ y there. pairs_head x xs pairs y (taken k xs y there)) (pairs_take k xs (pairs_tail x xs pairs))
    where
      taken : (k : ℕ) (xs : List X) (y : X) → Contains (take k xs) y → Contains xs y
      taken zero xs y there = absurd (no_member y there)
      taken (suc k) [] y there = absurd (no_member y there)
      taken (suc k) (x ∷ xs) y there =
          elim (contains_cases x (take k xs) y there) [
            | inl here ↦ subst (Contains (x ∷ xs)) here (contains_head x xs)
            | inr later ↦ contains_tail x xs y (taken k xs y later)
          ]

-- pairs of mapped items
pub pairs_map : {X Y : Type 0} (R : Y → Y → Type 0) (f : X → Y) (xs : List X) → AllPairs (λ a b. R (f a) (f b)) xs → AllPairs R (map f xs)
pairs_map R f [] pairs = no_pairs R
pairs_map R f (x ∷ xs) pairs =
    pairs_cons R (f x) (map f xs)
    (λ y there.
    let found = from_map f xs y there in
    subst (R (f x)) found.2 (pairs_head (λ a b. R (f a) (f b)) x xs pairs found.0 found.1))
    (pairs_map R f xs (pairs_tail (λ a b. R (f a) (f b)) x xs pairs))

pub unmapped_pairs : {X Y : Type 0} (R : Y → Y → Type 0) (f : X → Y) (xs : List X) → AllPairs R (map f xs) → AllPairs (λ a b. R (f a) (f b)) xs
unmapped_pairs R f [] pairs = no_pairs (λ a b. R (f a) (f b))
unmapped_pairs {X} R f (x ∷ xs) pairs =
    pairs_cons (λ a b. R (f a) (f b)) x xs
    (λ y there. pairs_head R (f x) (map f xs) pairs (f y) (mapped xs y there))
    (unmapped_pairs R f xs (pairs_tail R (f x) (map f xs) pairs))
  where
    mapped : (xs : List X) (y : X) → Contains xs y → Contains (map f xs) (f y)
    mapped [] y there = absurd (no_member y there)
    mapped (x ∷ xs) y there =
        elim (contains_cases x xs y there) [
          | inl here ↦ subst (Contains (f x ∷ map f xs)) (ap f here) (contains_head (f x) (map f xs))
          | inr later ↦ contains_tail (f x) (map f xs) (f y) (mapped xs y later)
        ]

-- pairs of items from lists of items
module _ {X Y : Type 0} (R : Y → Y → Type 0) (f : X → List Y) where
  abbrev Across : X → X → Type 0
  Across x y = (a b : Y) → Contains (f x) a → Contains (f y) b → R a b

  pub pairs_flat_map : (xs : List X) → ((x : X) → Contains xs x → AllPairs R (f x)) → AllPairs Across xs → AllPairs R (flat_map f xs)
  pairs_flat_map [] inner pairs = no_pairs R
  pairs_flat_map (x ∷ xs) inner pairs =
      pairs_append R (f x) (flat_map f xs) (inner x (contains_head x xs))
      (pairs_flat_map xs (λ y there. inner y (contains_tail x xs y there)) (pairs_tail Across x xs pairs))
      (λ a b here there.
      let found = from_flat_map f xs b there in
      pairs_head Across x xs pairs found.0 found.1 a b here found.2)

-- ---- members

pub from_filter : {X : Type 0} (p : X → Bool) (xs : List X) (x : X) → Contains (filter p xs) x → Contains xs x × (p x ≡ true)
from_filter p [] x found = absurd (no_member x found)
from_filter {X} p (y ∷ ys) x found = by (p y) refl found (from_filter p ys x)
  where
    by : (b : Bool) → p y ≡ b → Contains (cond b (y ∷ filter p ys) (filter p ys)) x → (Contains (filter p ys) x → Contains ys x × (p x ≡ true)) → Contains (y ∷ ys) x × (p x ≡ true)
    by true e found rest =
        elim (contains_cases y (filter p ys) x found) [
          | inl here ↦ (subst (Contains (y ∷ ys)) here (contains_head y ys), ap p (sym here) ∙ e)
          | inr there ↦ let r = rest there in (contains_tail y ys x r.0, r.1)
        ]
    by false e found rest = let r = rest found in (contains_tail y ys x r.0, r.1)

pub from_take : {X : Type 0} (k : ℕ) (xs : List X) (x : X) → Contains (take k xs) x → (n : ℕ) × (n < k) × (slice_get xs n ≡ Some x)
from_take zero xs x found = absurd (no_member x found)
from_take (suc k) [] x found = absurd (no_member x found)
from_take (suc k) (y ∷ ys) x found =
    elim (contains_cases y (take k ys) x found) [
      | inl here ↦ (0, omega arith, ap Some here)
      | inr there ↦ let rest = from_take k ys x there in let below = rest.1 in (suc rest.0, omega arith, rest.2)
    ]

pub to_take : {X : Type 0} (k : ℕ) (xs : List X) (n : ℕ) (x : X) → n < k → slice_get xs n ≡ Some x → Contains (take k xs) x
to_take zero xs n x below at = absurd (omega arith)
to_take (suc k) [] n x below at = absurd (none-some x (no_item n at))
  where
    no_item : (n : ℕ) → slice_get [] n ≡ Some x → slice_get [] 0 ≡ Some x
    no_item zero at = at
    no_item (suc n) at = at
to_take (suc k) (y ∷ ys) zero x below at = subst (Contains (y ∷ take k ys)) (same_Some y x at) (contains_head y (take k ys))
to_take (suc k) (y ∷ ys) (suc n) x below at = contains_tail y (take k ys) x (to_take k ys n x (omega arith) at)
