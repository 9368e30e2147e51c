-- The first of what the items of a list give, as a loop over them finds it.
use Rattle.std.proofs.Common.{◌≡◌, ℕ, zero, suc, ◌+◌, ◌-◌, ◌<◌, ◌≤◌, List, [], ◌∷◌, ◌++◌, length, get_or, drop, Option, Some, None, slice_get, refl, sym, ap, ◌∙◌, drop-cons, arith}
use Rattle.std.proofs.Math.ListN.{drop_of_length-le}
use Rattle.std.proofs.lemmas.Option.{slice_get_within, get_or_from_slice_get}
use Rattle.std.specs.List.{enumerate_from, flat_map}

-- the first of a list is the first of what begins with it
pub first_of : {V : Type 0} (xs ys : List V) (v : V) → Some v ≡ slice_get xs 0 → Some v ≡ slice_get (xs ++ ys) 0
first_of [] ys v e = absurd (cc)
first_of (x ∷ xs) ys v e = e

-- and what has no first is empty
pub empty_of : {V : Type 0} (xs : List V) → None ≡ slice_get xs 0 → xs ≡ []
empty_of [] e = refl
empty_of (x ∷ xs) e = absurd (cc)

-- the first of two lists one after the other, where the first list has none
pub second_of : {V : Type 0} (xs ys : List V) (o : Option V) → None ≡ slice_get xs 0 → o ≡ slice_get ys 0 → o ≡ slice_get (xs ++ ys) 0
second_of {V} xs ys o none e = e ∙ ap (λ (zs : List V). slice_get (zs ++ ys) 0) (sym (empty_of xs none))

module _ {X V : Type 0} (f : X → List V) (xs : List X) (i : ℕ) (x : X) (lt : i < length xs) (is : x ≡ get_or xs i x) where
  split : flat_map f (drop i xs) ≡ f x ++ flat_map f (drop (i + 1) xs)
  split =
      let next : suc i ≡ i + 1 = omega arith in
      rw (drop-cons xs i x lt, ← is) (ap (λ (n : ℕ). f x ++ flat_map f (drop n xs)) next)

  -- an item gives the first
  pub found_in : (v : V) → Some v ≡ slice_get (f x) 0 → Some v ≡ slice_get (flat_map f (drop i xs)) 0
  found_in v e = first_of (f x) (flat_map f (drop (i + 1) xs)) v e ∙ ap (λ (vs : List V). slice_get vs 0) (sym split)

  -- an item gives nothing
  pub passed_in : None ≡ slice_get (f x) 0 → flat_map f (drop (i + 1) xs) ≡ flat_map f (drop i xs)
  passed_in e = sym (split ∙ ap (λ (vs : List V). vs ++ flat_map f (drop (i + 1) xs)) (empty_of (f x) e))

-- behind the last item there is nothing
pub none_after : {X V : Type 0} (f : X → List V) (xs : List X) (i : ℕ) → length xs ≤ i → flat_map f (drop i xs) ≡ []
none_after f xs i le = ap (flat_map f) (drop_of_length-le xs le)

-- ---- the same where each item is given with its number

abbrev pub given : {X V : Type 0} → (ℕ → X → List V) → ℕ × X → List V
given f numbered = f numbered.0 numbered.1

-- what the items from a place on give, whose first has a number
abbrev pub from_place : {X V : Type 0} → (ℕ → X → List V) → ℕ → List X → List V
from_place f n xs = flat_map (given f) (enumerate_from n xs)

module _ {X V : Type 0} (f : ℕ → X → List V) (xs : List X) (n i : ℕ) (x : X) (lt : i < length xs) (is : x ≡ get_or xs i x) where
  pub numbered_split : from_place f n (drop i xs) ≡ f n x ++ from_place f (n + 1) (drop (i + 1) xs)
  numbered_split =
      let next : suc i ≡ i + 1 = omega arith in
      rw (drop-cons xs i x lt, ← is) (ap (λ (m : ℕ). f n x ++ from_place f (n + 1) (drop m xs)) next)

  pub numbered_found : (v : V) → Some v ≡ slice_get (f n x) 0 → Some v ≡ slice_get (from_place f n (drop i xs)) 0
  numbered_found v e =
      first_of (f n x) (from_place f (n + 1) (drop (i + 1) xs)) v e ∙ ap (λ (vs : List V). slice_get vs 0) (sym numbered_split)

  pub numbered_passed : f n x ≡ [] → from_place f (n + 1) (drop (i + 1) xs) ≡ from_place f n (drop i xs)
  numbered_passed e = sym (numbered_split ∙ ap (λ (vs : List V). vs ++ from_place f (n + 1) (drop (i + 1) xs)) e)

pub numbered_end : {X V : Type 0} (f : ℕ → X → List V) (xs : List X) (n i : ℕ) → length xs ≤ i → from_place f n (drop i xs) ≡ []
numbered_end f xs n i le = ap (from_place f n) (drop_of_length-le xs le)

-- the item at a place
pub item_at : {X : Type 0} (xs : List X) (i : ℕ) → i < length xs → (x : X) × (slice_get xs i ≡ Some x)
item_at [] i lt = absurd (omega arith)
item_at (x ∷ xs) zero lt = (x, refl)
item_at (x ∷ xs) (suc i) lt = item_at xs i (omega arith)

-- items that give nothing are passed over
pub all_passed : {X V : Type 0} (f : ℕ → X → List V) (xs : List X) (i n : ℕ) → i + n ≤ length xs
    → ((k : ℕ) (x : X) → i ≤ k → k < i + n → slice_get xs k ≡ Some x → f k x ≡ [])
    → from_place f (i + n) (drop (i + n) xs) ≡ from_place f i (drop i xs)
all_passed f xs i zero le none =
    let same : i + 0 ≡ i = omega arith in
    ap (λ (m : ℕ). from_place f m (drop m xs)) same
all_passed f xs i (suc n) le none =
    let found = item_at xs i (omega arith) in
    let is : found.0 ≡ get_or xs i found.0 = sym (get_or_from_slice_get xs i found.0 found.0 found.1) in
    let one = numbered_passed f xs i i found.0 (slice_get_within xs i found.0 found.1) is (none i found.0 (omega arith) (omega arith) found.1) in
    let there : i + suc n ≡ i + 1 + n = omega arith in
    ap (λ (m : ℕ). from_place f m (drop m xs)) there
    ∙ all_passed f xs (i + 1) n (omega arith) (λ k x from below. none k x (omega arith) (omega arith))
    ∙ one

-- and where all that are left give nothing there is nothing
pub none_left : {X V : Type 0} (f : ℕ → X → List V) (xs : List X) (i : ℕ) → i ≤ length xs
    → ((k : ℕ) (x : X) → i ≤ k → slice_get xs k ≡ Some x → f k x ≡ [])
    → from_place f i (drop i xs) ≡ []
none_left f xs i le none =
    sym (all_passed f xs i (length xs - i) (omega arith) (λ k x from below. none k x from))
    ∙ numbered_end f xs (i + (length xs - i)) (i + (length xs - i)) (omega arith)
