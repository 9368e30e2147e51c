-- Rounds of the equations come to an end: a value that changes in a round comes from an operator whose cost changed in
-- the round before, and so on, and these operators are different ones.
use Rattle.std.proofs.Common.{◌≡◌, ℕ, zero, suc, ◌+◌, ◌-◌, ◌≤◌, Bool, true, false, cond, not, ◌&&◌, Some, None, List, length, refl, ◌∙◌, subst, add-one, arith}
use Rattle.std.proofs.lemmas.Bool.{and_parts, not-true, both_ways}
use Rattle.std.proofs.lemmas.List.Sums.{count_by-le-length}
use Rattle.std.specs.FinSet as set
use Rattle.std.specs.List.{list_any, count_by}
use Rattle.mp_sets.specs.Numbers.{Numbers}
use Rattle.mp_task.specs.Strips.{Operator}
use Rattle.mp_estimates.specs.Estimates.{AtMost, Values}
use Rattle.mp_estimates.specs.Laws.Counts.{count-mono, count_more, one_of}
use Rattle.mp_relaxed.specs.Values.{cost_by, least_cost, next_values, AreGreatest, after_rounds, fact_values}
use Rattle.mp_estimates.specs.Laws.Order.{AtMost-refl, AtMost-trans, AtMost-antisym, within, within-AtMost, AtMost-within, within-more, within-plus, not_within-plus}
use Rattle.mp_relaxed.specs.Laws.Equations.{cost_by-mono, next-mono, least_differs, greatest_differs}

module _ (os : List Operator) (s : Numbers) where
  round : ℕ → Values
  round k = after_rounds os s k

  pub first_round : (x : ℕ) → after_rounds os s 0 x ≡ None
  unfolding after_rounds
  first_round x = refl

  pub next_round : (k x : ℕ) → after_rounds os s (suc k) x ≡ next_values os s (after_rounds os s k) x
  unfolding after_rounds
  next_round k x = refl

  -- values fall from round to round
  pub rounds_fall : (k x : ℕ) → AtMost (after_rounds os s (suc k) x) (after_rounds os s k x)
  unfolding after_rounds
  rounds_fall zero x = tt
  rounds_fall (suc k) x = next-mono os s (after_rounds os s (suc k)) (after_rounds os s k) (rounds_fall k) x

  -- values that are at most the right sides are at most those after any round
  pub below_rounds : (v : Values) → ((x : ℕ) → AtMost (v x) (next_values os s v x)) → (k x : ℕ) → AtMost (v x) (after_rounds os s k x)
  unfolding after_rounds
  below_rounds v h zero x = tt
  below_rounds v h (suc k) x =
      AtMost-trans (v x) _ _ (h x) (next-mono os s v (after_rounds os s k) (below_rounds v h k) x)

  -- whether an operator's adds come to be within t in a round
  Falls : ℕ → ℕ → Type 0
  Falls k t = list_any (λ o. within t (cost_by (after_rounds os s (suc k)) o) && not (within t (cost_by (after_rounds os s k) o))) os ≡ true

  counted : ℕ → ℕ → ℕ
  counted k t = count_by (λ o. within t (cost_by (after_rounds os s k) o)) os

  -- a value that comes to be within t in a round after the first comes from an operator that does so one round before
  value_falls : (k t x : ℕ) → within t (after_rounds os s (suc (suc k)) x) ≡ true → within t (after_rounds os s (suc k) x) ≡ false → Falls k t
  unfolding after_rounds Falls
  value_falls k t x = by (set.contains s x)
    where
      by : (b : Bool) → within t (cond b (Some 0) (least_cost (after_rounds os s (suc k)) os x)) ≡ true → within t (cond b (Some 0) (least_cost (after_rounds os s k) os x)) ≡ false → list_any (λ o. within t (cost_by (after_rounds os s (suc k)) o) && not (within t (cost_by (after_rounds os s k) o))) os ≡ true
      by true e f = absurd (both_ways (within t (Some 0)) f e)
      by false e f = least_differs (after_rounds os s (suc k)) (after_rounds os s k) t x os e f

  stays : (k t : ℕ) (o : Operator) → within t (cost_by (after_rounds os s k) o) ≡ true → within t (cost_by (after_rounds os s (suc k)) o) ≡ true
  stays k t o e =
      within-AtMost t _ _ (cost_by-mono (after_rounds os s (suc k)) (after_rounds os s k) o (λ _ _ _. rounds_fall k _)) e

  -- where an operator falls in a round, at least as many operators as there were rounds are within that cost
  falls_count : (k t : ℕ) → Falls k t → suc k ≤ counted (suc k) t
  unfolding Falls counted
  falls_count zero t falls =
      let more = count_more (λ o. within t (cost_by (after_rounds os s 1) o)) (λ o. within t (cost_by (after_rounds os s 0) o)) os (stays 0 t) falls in
      omega arith
  falls_count (suc k) t falls =
      let o = one_of _ os falls in
      let both = and_parts _ _ o.1 in
      let cost = within-plus o.0.cost t _ both.0 in
      let y = greatest_differs (after_rounds os s (suc (suc k))) (after_rounds os s (suc k)) (t - o.0.cost) o.0.pre cost.1 (not_within-plus o.0.cost t _ cost.0 (not-true _ both.1)) in
      let before = falls_count k (t - o.0.cost) (value_falls k (t - o.0.cost) y.0 y.1 y.2) in
      let wider = count-mono (λ p. within t (cost_by (after_rounds os s (suc k)) p)) (λ p. within (t - o.0.cost) (cost_by (after_rounds os s (suc k)) p)) os (λ p e. within-more (t - o.0.cost) t _ (omega arith) e) in
      let more = count_more (λ p. within t (cost_by (after_rounds os s (suc (suc k))) p)) (λ p. within t (cost_by (after_rounds os s (suc k)) p)) os (stays (suc k) t) falls in
      omega arith

  too_many : (k t x : ℕ) → k ≡ length os → within t (after_rounds os s (suc (suc k)) x) ≡ true → within t (after_rounds os s (suc k) x) ≡ false → ⊥
  unfolding counted
  too_many k t x all e f =
      let many = falls_count k t (value_falls k t x e f) in
      let most = count_by-le-length (λ o. within t (cost_by (after_rounds os s (suc k)) o)) os in
      omega arith

  -- nothing changes after one round more than there are operators
  pub no_fall : (k x : ℕ) → k ≡ length os → AtMost (after_rounds os s (suc k) x) (after_rounds os s (suc (suc k)) x)
  no_fall k x all = AtMost-within _ _ (λ t e. by t e (within t (after_rounds os s (suc k) x)) refl)
    where
      by : (t : ℕ) → within t (after_rounds os s (suc (suc k)) x) ≡ true → (b : Bool) → within t (after_rounds os s (suc k) x) ≡ b → within t (after_rounds os s (suc k) x) ≡ true
      by t e true is = is
      by t e false is = absurd (too_many k t x all e is)

  pub settled : (x : ℕ) → fact_values os s x ≡ next_values os s (fact_values os s) x
  settled x = rw (add-one (length os)) (AtMost-antisym _ _ (no_fall (length os) x refl) (rounds_fall (suc (length os)) x) ∙ next_round (suc (length os)) x)

  pub are_greatest : AreGreatest os s (fact_values os s)
  are_greatest = record {
    satisfy = settled;
    greatest = λ others solve. below_rounds others (λ x. subst (AtMost (others x)) (solve x) (AtMost-refl (others x))) (length os + 1);
  }
