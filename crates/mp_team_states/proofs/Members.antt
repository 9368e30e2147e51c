-- Members of mapped and joined lists.
use Rattle.mp_world.proofs.Basics.{◌≡◌, ◌≢◌, ℕ, zero, suc, List, [], ◌∷◌, ◌++◌, length, Option, Some, None, refl, sym, ap, subst, ◌∙◌, inl, inr, ◌⊎◌, Contains, filter_map, slice_get, slice_set, cons_option}
use Rattle.mp_world.proofs.Basics.{cases_eq, same_Some, none-some, slice_get-get_or}
use Rattle.mp_list.proofs.Members.{contains_cases, contains_head, contains_tail, no_member}

to_option : {X : Type 0} (o : Option X) (xs : List X) (x : X) → (o ≡ Some x) ⊎ Contains xs x → Contains (cons_option o xs) x
to_option None xs x (inl here) = absurd (none-some x here)
to_option None xs x (inr there) = there
to_option (Some y) xs x (inl here) = subst (Contains (y ∷ xs)) (same_Some y x here) (contains_head y xs)
to_option (Some y) xs x (inr there) = contains_tail y xs x there

from_option : {X : Type 0} (o : Option X) (xs : List X) (x : X) → Contains (cons_option o xs) x → (o ≡ Some x) ⊎ Contains xs x
from_option None xs x found = inr found
from_option (Some y) xs x found =
    elim (contains_cases y xs x found) [
      | inl here ↦ inl (ap Some here)
      | inr there ↦ inr there
    ]

pub to_filter_map : {X Y : Type 0} (f : X → Option Y) (xs : List X) (x : X) (y : Y) → Contains xs x → f x ≡ Some y → Contains (filter_map f xs) y
to_filter_map f [] x y found is = absurd (no_member x found)
to_filter_map f (z ∷ zs) x y found is =
    elim (contains_cases z zs x found) [
      | inl here ↦ to_option (f z) (filter_map f zs) y (inl (ap f here ∙ is))
      | inr there ↦ to_option (f z) (filter_map f zs) y (inr (to_filter_map f zs x y there is))
    ]

pub from_filter_map : {X Y : Type 0} (f : X → Option Y) (xs : List X) (y : Y) → Contains (filter_map f xs) y → (x : X) × Contains xs x × (f x ≡ Some y)
from_filter_map f [] y found = absurd (no_member y found)
from_filter_map f (x ∷ xs) y found =
    elim (from_option (f x) (filter_map f xs) y found) [
      | inl here ↦ (x, contains_head x xs, here)
      | inr there ↦ let rest = from_filter_map f xs y there in (rest.0, contains_tail x xs rest.0 rest.1, rest.2)
    ]

-- a member stands at a place
pub at_place : {X : Type 0} (xs : List X) (x : X) → Contains xs x → (k : ℕ) × (slice_get xs k ≡ Some x)
at_place xs x (k, lt, is) = (k, slice_get-get_or xs k x lt ∙ ap Some is)

-- what stands behind all others
pub at_end : {X : Type 0} (xs : List X) (x : X) → slice_get (xs ++ x ∷ []) (length xs) ≡ Some x
at_end [] x = refl
at_end (y ∷ ys) x = at_end ys x

-- the item at a place, once one more stands at the end
pub pushed_back : {X : Type 0} (xs : List X) (x : X) (n : ℕ) (o : X) → slice_get (xs ++ x ∷ []) n ≡ Some o → (slice_get xs n ≡ Some o) ⊎ (x ≡ o)
pushed_back [] x zero o at = inr (same_Some x o at)
pushed_back [] x (suc n) o at = absurd (none-some o at)
pushed_back (y ∷ ys) x zero o at = inl at
pushed_back (y ∷ ys) x (suc n) o at = pushed_back ys x n o at

-- the same with its place
pub pushed_place : {X : Type 0} (xs : List X) (x : X) (n : ℕ) (o : X) → slice_get (xs ++ x ∷ []) n ≡ Some o → (slice_get xs n ≡ Some o) ⊎ ((length xs ≡ n) × (x ≡ o))
pushed_place [] x zero o at = inr (refl, same_Some x o at)
pushed_place [] x (suc n) o at = absurd (none-some o at)
pushed_place (y ∷ ys) x zero o at = inl at
pushed_place (y ∷ ys) x (suc n) o at = by (pushed_place ys x n o at)
  where
    by : (slice_get ys n ≡ Some o) ⊎ ((length ys ≡ n) × (x ≡ o)) → (slice_get ys n ≡ Some o) ⊎ ((suc (length ys) ≡ suc n) × (x ≡ o))
    by (inl old) = inl old
    by (inr new) = inr (ap suc new.0, new.1)

-- what stands at a place where another item was put, and elsewhere
pub set_there : {X : Type 0} (xs : List X) (k : ℕ) (x y : X) → slice_get xs k ≡ Some x → slice_get (slice_set xs k y) k ≡ Some y
set_there [] k x y at = absurd (none-some x at)
set_there (z ∷ zs) zero x y at = refl
set_there (z ∷ zs) (suc k) x y at = set_there zs k x y at

pub set_same : {X : Type 0} (xs : List X) (k : ℕ) (y x : X) → slice_get (slice_set xs k y) k ≡ Some x → y ≡ x
set_same [] k y x at = absurd (none-some x at)
set_same (z ∷ zs) zero y x at = same_Some y x at
set_same (z ∷ zs) (suc k) y x at = set_same zs k y x at

pub set_other : {X : Type 0} (xs : List X) (n m : ℕ) (x : X) → m ≢ n → slice_get (slice_set xs n x) m ≡ slice_get xs m
set_other [] n m x apart = refl
set_other (y ∷ ys) zero zero x apart = absurd (apart refl)
set_other (y ∷ ys) zero (suc m) x apart = refl
set_other (y ∷ ys) (suc n) zero x apart = refl
set_other (y ∷ ys) (suc n) (suc m) x apart = set_other ys n m x (λ same. apart (ap suc same))

pub set_back : {X : Type 0} (xs : List X) (n m : ℕ) (y x : X) → slice_get (slice_set xs n y) m ≡ Some x → (m ≡ n) ⊎ (slice_get xs m ≡ Some x)
set_back {X} xs n m y x at = by (cases_eq m n)
  where
    by : (m ≡ n) ⊎ (m ≡ n → ⊥) → (m ≡ n) ⊎ (slice_get xs m ≡ Some x)
    by (inl same) = inl same
    by (inr other) = inr (sym (set_other xs n m y other) ∙ at)
