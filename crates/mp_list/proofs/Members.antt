-- Members of lists, by the first item and the others.
use Rattle.std.proofs.Common.{◌≡◌, zero, suc, Bool, true, List, [], ◌∷◌, map, refl, sym, ap, ◌∙◌, subst, arith, inl, inr}
use Rattle.std.specs.Prelude.{◌⊎◌, Contains}
use Rattle.std.specs.List.{list_all, list_any, flat_map}
use Rattle.std.proofs.lemmas.Bool.{and_parts, or_cases, or_left, or_right}
use Rattle.std.proofs.lemmas.List.Elements.{Contains-append_cases, Contains-append_left, Contains-append_right}

pub contains_head : {X : Type 0} (x : X) (xs : List X) → Contains (x ∷ xs) x
contains_head x xs = (0, omega arith, refl)

-- a member of the rest is a member
pub contains_tail : {X : Type 0} (x : X) (xs : List X) (y : X) → Contains xs y → Contains (x ∷ xs) y
contains_tail x xs y (k, lt, is) = (suc k, omega (arith, lt), is)

-- a member is the first item or one of the others
pub contains_cases : {X : Type 0} (x : X) (xs : List X) (y : X) → Contains (x ∷ xs) y → (x ≡ y) ⊎ Contains xs y
contains_cases x xs y (zero, lt, is) = inl is
contains_cases x xs y (suc k, lt, is) = inr (k, omega (arith, lt), is)

-- the empty list has none
pub no_member : {X : Type 0} (y : X) → Contains [] y → ⊥
no_member y (k, lt, is) = absurd (omega (arith, lt))

-- the member of a list of one
pub contains_one : {X : Type 0} (x y : X) → Contains (x ∷ []) y → y ≡ x
contains_one x y (zero, lt, is) = sym is
contains_one x y (suc k, lt, is) = absurd (omega (arith, lt))

-- what all items pass, each passes
pub all_at : {X : Type 0} (test : X → Bool) (xs : List X) (x : X) → list_all test xs ≡ true → Contains xs x → test x ≡ true
all_at test [] x h found = absurd (no_member x found)
all_at test (y ∷ ys) x h found =
    elim (contains_cases y ys x found) [
      | inl here ↦ sym (ap test here) ∙ (and_parts (test y) (list_all test ys) h).0
      | inr there ↦ all_at test ys x (and_parts (test y) (list_all test ys) h).1 there
    ]

-- what a member passes, some member passes
pub any_from : {X : Type 0} (test : X → Bool) (xs : List X) (x : X) → Contains xs x → test x ≡ true → list_any test xs ≡ true
any_from test [] x found h = absurd (no_member x found)
any_from test (y ∷ ys) x found h =
    elim (contains_cases y ys x found) [
      | inl here ↦ or_left (test y) (list_any test ys) (ap test here ∙ h)
      | inr there ↦ or_right (test y) (list_any test ys) (any_from test ys x there h)
    ]

-- and the way back
pub some_member : {X : Type 0} (test : X → Bool) (xs : List X) → list_any test xs ≡ true → (x : X) × Contains xs x × (test x ≡ true)
some_member test [] h = absurd (cc)
some_member test (y ∷ ys) h =
    elim (or_cases (test y) (list_any test ys) h) [
      | inl here ↦ (y, contains_head y ys, here)
      | inr there ↦ let found = some_member test ys there in (found.0, contains_tail y ys found.0 found.1, found.2)
    ]

-- ---- members of mapped and joined lists

pub to_map : {X Y : Type 0} (f : X → Y) (xs : List X) (x : X) → Contains xs x → Contains (map f xs) (f x)
to_map f [] x found = absurd (no_member x found)
to_map f (y ∷ ys) x found =
    elim (contains_cases y ys x found) [
      | inl here ↦ subst (Contains (f y ∷ map f ys)) (ap f here) (contains_head (f y) (map f ys))
      | inr there ↦ contains_tail (f y) (map f ys) (f x) (to_map f ys x there)
    ]

pub from_map : {X Y : Type 0} (f : X → Y) (xs : List X) (y : Y) → Contains (map f xs) y → (x : X) × Contains xs x × (f x ≡ y)
from_map f [] y found = absurd (no_member y found)
from_map f (x ∷ xs) y found =
    elim (contains_cases (f x) (map f xs) y found) [
      | inl here ↦ (x, contains_head x xs, here)
      | inr there ↦ let rest = from_map f xs y there in (rest.0, contains_tail x xs rest.0 rest.1, rest.2)
    ]

pub to_flat_map : {X Y : Type 0} (f : X → List Y) (xs : List X) (x : X) (y : Y) → Contains xs x → Contains (f x) y → Contains (flat_map f xs) y
to_flat_map f [] x y found inner = absurd (no_member x found)
to_flat_map f (z ∷ zs) x y found inner =
    elim (contains_cases z zs x found) [
      | inl here ↦ Contains-append_left (f z) (flat_map f zs) y (subst (λ w. Contains (f w) y) (sym here) inner)
      | inr there ↦ Contains-append_right (f z) (flat_map f zs) y (to_flat_map f zs x y there inner)
    ]

pub from_flat_map : {X Y : Type 0} (f : X → List Y) (xs : List X) (y : Y) → Contains (flat_map f xs) y → (x : X) × Contains xs x × Contains (f x) y
from_flat_map f [] y found = absurd (no_member y found)
from_flat_map f (x ∷ xs) y found =
    elim (Contains-append_cases (f x) (flat_map f xs) y found) [
      | inl here ↦ (x, contains_head x xs, here)
      | inr there ↦ let rest = from_flat_map f xs y there in (rest.0, contains_tail x xs rest.0 rest.1, rest.2)
    ]
