-- The parts of the equations in order, and where two sides of them differ.
use Rattle.std.proofs.Common.{◌≡◌, ℕ, Bool, true, false, cond, not, leb, get_or, ◌&&◌, ◌||◌, Option, Some, None, List, [], ◌∷◌, All, refl, sym, subst}
use Rattle.std.proofs.lemmas.Bool.{or_left, or_right, and_from, not_from_false, both_ways}
use Rattle.std.proofs.lemmas.List.Elements.{All-head, All-tail, All-cons, All-nil}
use Rattle.std.specs.FinSet as set
use Rattle.std.specs.List.{list_any}
use Rattle.mp_sets.specs.Numbers.{Numbers}
use Rattle.mp_task.specs.Strips.{Operator}
use Rattle.mp_estimates.specs.Estimates.{AtMost, lesser, greater, Values}
use Rattle.mp_relaxed.specs.Values.{greatest, cost_by, adds, least_cost, next_values}
use Rattle.mp_estimates.specs.Laws.Order.{AtMost-refl, AtMost-trans, zero_AtMost, lesser_left, lesser_right, lesser_both, greater_left, greater_right, greater_both, plus-mono, within, within-AtMost, within-lesser, not_within-AtMost, within-greater}

-- the greatest value is at or above each, and at or below what each is at or below
pub greatest_above : (v : Values) (xs : List ℕ) → All (λ x. AtMost (v x) (greatest v xs)) xs
greatest_above v [] = All-nil (λ x. AtMost (v x) (Some 0))
greatest_above v (x ∷ xs) =
    All-cons (λ y. AtMost (v y) (greater (v x) (greatest v xs))) x xs (greater_left (v x) (greatest v xs))
    (λ k d h. AtMost-trans _ (greatest v xs) _ (greatest_above v xs k d h) (greater_right (v x) (greatest v xs)))

pub greatest_below : (v : Values) (c : Option ℕ) (xs : List ℕ) → All (λ x. AtMost (v x) c) xs → AtMost (greatest v xs) c
greatest_below v c [] h = zero_AtMost c
greatest_below v c (x ∷ xs) h =
    greater_both c (v x) (greatest v xs) (All-head (λ y. AtMost (v y) c) x xs h) (greatest_below v c xs (All-tail (λ y. AtMost (v y) c) x xs h))

pub greatest-mono : (v w : Values) (xs : List ℕ) → All (λ x. AtMost (v x) (w x)) xs → AtMost (greatest v xs) (greatest w xs)
greatest-mono v w xs h =
    greatest_below v (greatest w xs) xs (λ k d lt. AtMost-trans _ (w _) _ (h k d lt) (greatest_above w xs k d lt))

pub cost_by-mono : (v w : Values) (o : Operator) → All (λ x. AtMost (v x) (w x)) o.pre → AtMost (cost_by v o) (cost_by w o)
cost_by-mono v w o h = plus-mono o.cost _ _ (greatest-mono v w o.pre h)

-- the least cost is at or below that by each operator that adds the fact, and at or above what each is at or above
pub least_below : (v : Values) (x : ℕ) (os : List Operator) → All (λ o. adds o x ≡ true → AtMost (least_cost v os x) (cost_by v o)) os
least_below v x [] = All-nil (λ o. adds o x ≡ true → AtMost None (cost_by v o))
least_below v x (o ∷ os) =
    All-cons (λ p. adds p x ≡ true → AtMost (least_cost v (o ∷ os) x) (cost_by v p)) o os
    (λ e. subst (λ b. AtMost (cond b (lesser (cost_by v o) (least_cost v os x)) (least_cost v os x)) (cost_by v o)) (sym e) (lesser_left _ _))
    (λ k d h e. AtMost-trans _ (least_cost v os x) _ (rest (adds o x)) (least_below v x os k d h e))
  where
    rest : (b : Bool) → AtMost (cond b (lesser (cost_by v o) (least_cost v os x)) (least_cost v os x)) (least_cost v os x)
    rest true = lesser_right (cost_by v o) (least_cost v os x)
    rest false = AtMost-refl (least_cost v os x)

pub least_above : (v : Values) (c : Option ℕ) (x : ℕ) (os : List Operator) → All (λ o. adds o x ≡ true → AtMost c (cost_by v o)) os → AtMost c (least_cost v os x)
least_above v c x [] h = tt
least_above v c x (o ∷ os) h =
    by (adds o x) refl (least_above v c x os (All-tail (λ p. adds p x ≡ true → AtMost c (cost_by v p)) o os h))
  where
    by : (b : Bool) → adds o x ≡ b → AtMost c (least_cost v os x) → AtMost c (cond b (lesser (cost_by v o) (least_cost v os x)) (least_cost v os x))
    by true e k = lesser_both c _ _ (All-head (λ p. adds p x ≡ true → AtMost c (cost_by v p)) o os h e) k
    by false e k = k

-- the right sides rise with the values
pub least-mono : (v w : Values) (x : ℕ) (os : List Operator) → ((y : ℕ) → AtMost (v y) (w y)) → AtMost (least_cost v os x) (least_cost w os x)
least-mono v w x os h =
    least_above w (least_cost v os x) x os
    (λ k d lt e. AtMost-trans _ (cost_by v (get_or os k d)) _ (least_below v x os k d lt e) (cost_by-mono v w (get_or os k d) (λ _ _ _. h _)))

pub next-mono : (os : List Operator) (s : Numbers) (v w : Values) → ((y : ℕ) → AtMost (v y) (w y)) → (x : ℕ) → AtMost (next_values os s v x) (next_values os s w x)
next-mono os s v w h x = by (set.contains s x)
  where
    by : (b : Bool) → AtMost (cond b (Some 0) (least_cost v os x)) (cond b (Some 0) (least_cost w os x))
    by true = AtMost-refl (Some 0)
    by false = least-mono v w x os h

-- where the one side is within t and the other is not, some part of it is
pub least_differs : (v w : Values) (t x : ℕ) (os : List Operator) → within t (least_cost v os x) ≡ true → within t (least_cost w os x) ≡ false → list_any (λ o. within t (cost_by v o) && not (within t (cost_by w o))) os ≡ true
least_differs v w t x [] h k = h
least_differs v w t x (o ∷ os) h k = by (adds o x) (within t (cost_by v o)) refl (least_differs v w t x os) h k
  where
    by : (b a : Bool) → within t (cost_by v o) ≡ a → (within t (least_cost v os x) ≡ true → within t (least_cost w os x) ≡ false → list_any (λ p. within t (cost_by v p) && not (within t (cost_by w p))) os ≡ true) → within t (cond b (lesser (cost_by v o) (least_cost v os x)) (least_cost v os x)) ≡ true → within t (cond b (lesser (cost_by w o) (least_cost w os x)) (least_cost w os x)) ≡ false → ((within t (cost_by v o) && not (within t (cost_by w o))) || list_any (λ p. within t (cost_by v p) && not (within t (cost_by w p))) os) ≡ true
    by false a e rest h k = or_right _ _ (rest h k)
    by true true e rest h k =
        or_left _ _ (and_from _ _ e (not_from_false _ (not_within-AtMost t (lesser (cost_by w o) (least_cost w os x)) (cost_by w o) (lesser_left _ _) k)))
    by true false e rest h k =
        or_right _ _
        (rest (within-lesser t _ _ h e)
        (not_within-AtMost t (lesser (cost_by w o) (least_cost w os x)) (least_cost w os x) (lesser_right (cost_by w o) _) k))

pub greatest_differs : (v w : Values) (t : ℕ) (xs : List ℕ) → within t (greatest v xs) ≡ true → within t (greatest w xs) ≡ false → (x : ℕ) × (within t (v x) ≡ true) × (within t (w x) ≡ false)
greatest_differs v w t [] h k = absurd (both_ways (leb 0 t) k h)
greatest_differs v w t (x ∷ xs) h k = by (within t (w x)) refl (greatest_differs v w t xs)
  where
    by : (b : Bool) → within t (w x) ≡ b → (within t (greatest v xs) ≡ true → within t (greatest w xs) ≡ false → (y : ℕ) × (within t (v y) ≡ true) × (within t (w y) ≡ false)) → (y : ℕ) × (within t (v y) ≡ true) × (within t (w y) ≡ false)
    by false e rest = (x, within-AtMost t (v x) (greater (v x) (greatest v xs)) (greater_left _ _) h, e)
    by true e rest = rest (within-AtMost t (greatest v xs) (greater (v x) (greatest v xs)) (greater_right _ _) h) (within-greater t (w x) (greatest w xs) k e)
