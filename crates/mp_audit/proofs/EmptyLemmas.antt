-- Lists of failures that are empty.
use Rattle.std.proofs.Common.{◌≡◌, ℕ, zero, suc, ◌+◌, List, [], ◌∷◌, ◌++◌, map, Some, slice_get, refl, sym, ap, ◌∙◌, subst, arith, inl, inr}
use Rattle.std.specs.List.{Contains, enumerate_from, flat_map}
use Rattle.mp_list.proofs.Members.{contains_head, contains_tail, contains_cases, no_member}

-- both parts of an empty list are empty
pub parts_empty : {X : Type 0} (xs ys : List X) → xs ++ ys ≡ [] → (xs ≡ []) × (ys ≡ [])
parts_empty [] ys e = (refl, e)
parts_empty (x ∷ xs) ys e = absurd (cc)

pub both_empty : {X : Type 0} (xs ys : List X) → xs ≡ [] → ys ≡ [] → xs ++ ys ≡ []
both_empty xs ys e f = rw (e, f) refl

pub map_empty : {X Y : Type 0} (f : X → Y) (xs : List X) → map f xs ≡ [] → xs ≡ []
map_empty f [] e = refl
map_empty f (x ∷ xs) e = absurd (cc)

-- nothing is given exactly where no item gives anything
pub each_empty : {X Y : Type 0} (f : X → List Y) (xs : List X) → flat_map f xs ≡ [] → (x : X) → Contains xs x → f x ≡ []
each_empty f [] e x here = absurd (no_member x here)
each_empty f (y ∷ ys) e x here =
    let parts = parts_empty (f y) (flat_map f ys) e in
    elim (contains_cases y ys x here) [
      | inl is ↦ sym (ap f is) ∙ parts.0
      | inr later ↦ each_empty f ys parts.1 x later
    ]

pub all_empty : {X Y : Type 0} (f : X → List Y) (xs : List X) → ((x : X) → Contains xs x → f x ≡ []) → flat_map f xs ≡ []
all_empty f [] none = refl
all_empty f (y ∷ ys) none =
    both_empty (f y) (flat_map f ys) (none y (contains_head y ys)) (all_empty f ys (λ x here. none x (contains_tail y ys x here)))

-- an item with its number is among the numbered ones, and none else
pub numbered_has : {X : Type 0} (first : ℕ) (xs : List X) (i : ℕ) (x : X) → slice_get xs i ≡ Some x → Contains (enumerate_from first xs) (first + i, x)
numbered_has first [] i x e = absurd (cc)
numbered_has {X} first (y ∷ ys) zero x e =
    let is : y ≡ x = cc in
    let place : first ≡ first + 0 = omega arith in
    subst (λ (p : ℕ × X). Contains ((first, y) ∷ enumerate_from (first + 1) ys) p) (λ j. (place j, is j)) (contains_head (first, y) (enumerate_from (first + 1) ys))
numbered_has first (y ∷ ys) (suc i) x e =
    let place : first + 1 + i ≡ first + suc i = omega arith in
    contains_tail (first, y) (enumerate_from (first + 1) ys) (first + suc i, x)
    (subst (λ (n : ℕ). Contains (enumerate_from (first + 1) ys) (n, x)) place (numbered_has (first + 1) ys i x e))

pub numbered_is : {X : Type 0} (first : ℕ) (xs : List X) (p : ℕ × X) → Contains (enumerate_from first xs) p → (i : ℕ) × (p.0 ≡ first + i) × (slice_get xs i ≡ Some p.1)
numbered_is first [] p here = absurd (no_member p here)
numbered_is {X} first (y ∷ ys) p here =
    let none : first ≡ first + 0 = omega arith in
    elim (contains_cases (first, y) (enumerate_from (first + 1) ys) p here) [
      | inl is ↦ (0, sym (ap (λ (q : ℕ × X). q.0) is) ∙ none, ap (λ (q : ℕ × X). Some q.1) is)
      | inr later ↦
          let found = numbered_is (first + 1) ys p later in
          let place : first + 1 + found.0 ≡ first + suc found.0 = omega arith in
          (suc found.0, found.1 ∙ place, found.2)
    ]
