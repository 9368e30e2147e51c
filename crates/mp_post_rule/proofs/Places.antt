-- A function changed at one place, and items that are there in a list.
use Rattle.std.proofs.Common.{◌≡◌, ◌≢◌, ℕ, zero, suc, ◌<◌, ◌⊎◌, inl, inr, ⊎_elim, eq-eqb, ne_eqb, List, [], ◌∷◌, ◌++◌, length, get_or, refl, ap, sym, arith, Some, None}
use Rattle.std.specs.Prelude.{Option, ◌==◌, if◌then◌else◌}
use Rattle.std.proofs.lemmas.Option.{none-some}
use mathlib.Core.Option.{some, some-injective, some-ne-none}
use lib.ListN.{get_elem?}

module _ {A : Type 0} where
  abbrev pub put : (ℕ → A) → ℕ → A → ℕ → A
  put f k x j = if j == k then x else f j

  pub put_here : (f : ℕ → A) (k : ℕ) (x : A) → put f k x k ≡ x
  put_here f k x = ap (λ b. if b then x else f k) (eq-eqb k k refl)

  pub put_else : (f : ℕ → A) (k j : ℕ) (x : A) → j ≢ k → put f k x j ≡ f j
  put_else f k j x other = ap (λ b. if b then x else f j) (ne_eqb j k other)

  -- the place of an item is within the list
  pub inside : (xs : List A) (i : ℕ) (x : A) → get_elem? xs i ≡ some x → i < length xs
  inside [] i x e = absurd (some-ne-none x (sym e))
  inside (y ∷ ys) zero x e = omega arith
  inside (y ∷ ys) (suc i) x e = let h = inside ys i x e in omega arith

  pub present : (l : List (Option A)) (k : ℕ) (x : A) → get_or l k None ≡ Some x → k < length l
  present [] k x e = absurd (none-some x e)
  present (y ∷ ys) zero x e = omega arith
  present (y ∷ ys) (suc k) x e = let h = present ys k x e in omega arith

  -- an item of a list with one more at its end
  pub at_end : (l : List A) (a b : A) (j : ℕ) → get_elem? (l ++ a ∷ []) j ≡ some b → (get_elem? l j ≡ some b) ⊎ ((j ≡ length l) × (a ≡ b))
  at_end [] a b zero e = inr (refl, some-injective a b e)
  at_end [] a b (suc j) e = absurd (some-ne-none b (sym e))
  at_end (x ∷ xs) a b zero e = inl e
  at_end (x ∷ xs) a b (suc j) e = ⊎_elim (λ t. inl t) (λ t. inr (ap suc t.0, t.1)) (at_end xs a b j e)

  pub only : (x v : A) (k : ℕ) → get_elem? (x ∷ []) k ≡ some v → (k ≡ 0) × (x ≡ v)
  only x v zero e = (refl, some-injective x v e)
  only x v (suc k) e = absurd (some-ne-none v (sym e))
