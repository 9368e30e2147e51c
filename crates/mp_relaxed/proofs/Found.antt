-- What a search has found: the values of facts when no fact waits any more, and before that the greatest value of facts
-- that are settled.
use Rattle.std.proofs.Common.{◌≡◌, ℕ, zero, suc, ◌+◌, ◌-◌, ◌*◌, ◌<◌, ◌≤◌, min, Bool, true, false, cond, ltb, ◌&&◌, ◌⊎◌, inl, inr, Option, Some, None, option_map, List, [], ◌∷◌, length, get_or, All, Contains, IsTrue, refl, sym, ap, ◌∙◌, subst, ⊎_elim, arith}
use Rattle.std.proofs.lemmas.Bool.{and_from, and_parts, cases_lt, lt-ltb, le-ltb}
use Rattle.std.proofs.lemmas.List.Elements.{All-cons, All-contains, All-from_get_or, All-nil, Contains-append_left, Contains-append_right}
use Rattle.std.specs.FinSet as set
use Rattle.std.specs.Option.{IfSome}
use Rattle.mp_sets.specs.Numbers.{Numbers}
use Rattle.mp_sets.proofs.NumbersLemmas.{All_at}
use Rattle.mp_sets.proofs.SetLemmas.{contains-numbers_below}
use Rattle.mp_task.specs.Strips.{Operator}
use Rattle.mp_estimates.specs.Estimates.{AtMost, Values}
use Rattle.mp_relaxed.specs.Values.{cost_by, adds, greatest, least_cost, after_rounds, fact_values}
use Rattle.mp_relaxed.specs.Relaxed.{RelaxedProblem, operator_at, state_of}
use Rattle.mp_estimates.specs.Lowering.{unknown, known, number_at, value_at, AreBelow}
use Rattle.mp_relaxed.specs.Search.{capped, AreFound, AreSettled, IsServed, AreLow, ServesBelow}
use Rattle.mp_estimates.specs.Laws.Order.{AtMost-refl, AtMost-trans, AtMost-antisym, zero_AtMost}
use Rattle.mp_relaxed.specs.Laws.Equations.{cost_by-mono, greatest-mono, greatest_above, least_below, least_above}
use Rattle.mp_relaxed.specs.Laws.Rounds.{first_round, next_round, settled}
use Rattle.mp_relaxed.specs.Laws.Bounds.{Below, cost-Below, rounds-Below, start_zero}
use Rattle.mp_estimates.proofs.LoweringLemmas.{known-mono, known-some}
use Rattle.mp_relaxed.proofs.CountLemmas.{serves_all}

-- values that the equations give are low

pub are_low : (os : List Operator) (s : Numbers) → AreLow os (fact_values os s)
are_low os s k x within adding =
    subst (λ a. AtMost a (cost_by (fact_values os s) (operator_at os k))) (sym (settled os s x)) (by (set.contains s x))
  where
    by : (b : Bool) → AtMost (cond b (Some 0) (least_cost (fact_values os s) os x)) (cost_by (fact_values os s) (operator_at os k))
    by true = zero_AtMost (cost_by (fact_values os s) (operator_at os k))
    by false = least_below (fact_values os s) x os k _ within adding

capped_below : (a b : Option ℕ) → AtMost a b → IfSome b (λ n. n < unknown) → AtMost (capped a) b
capped_below a None h small = tt
capped_below None (Some n) h small = absurd h
capped_below (Some m) (Some n) h small = subst (λ a. AtMost a (Some n)) (sym (known-some m (omega arith))) h

-- a number, but at most a bound, as a cost
abbrev cut : List ℕ → ℕ → Values
cut numbers n x = known (min (number_at numbers x) n)

-- of some facts all have lesser numbers than a bound, or one has not
all_or_one : (numbers : List ℕ) (n : ℕ) (xs : List ℕ) → All (λ x. number_at numbers x < n) xs ⊎ ((x : ℕ) × Contains xs x × (n ≤ number_at numbers x))
all_or_one numbers n [] = inl (All-nil (λ x. number_at numbers x < n))
all_or_one numbers n (x ∷ xs) = by (cases_lt (number_at numbers x) n) (all_or_one numbers n xs)
  where
    by : (number_at numbers x < n) ⊎ (n ≤ number_at numbers x) → All (λ y. number_at numbers y < n) xs ⊎ ((y : ℕ) × Contains xs y × (n ≤ number_at numbers y)) → All (λ y. number_at numbers y < n) (x ∷ xs) ⊎ ((y : ℕ) × Contains (x ∷ xs) y × (n ≤ number_at numbers y))
    by (inl less) (inl all) = inl (All-cons (λ y. number_at numbers y < n) x xs less all)
    by (inl less) (inr one) = inr (one.0, Contains-append_right (x ∷ []) xs one.0 one.1, one.2)
    by (inr more) rest = inr (x, Contains-append_left (x ∷ []) xs x (0, (let h : 0 < 1 = omega arith in h), refl), more)

plus_above : (c : ℕ) (a : Option ℕ) → AtMost a (option_map (λ h. c + h) a)
plus_above c None = tt
plus_above c (Some m) = omega arith

module _ (os : List Operator) (s : Numbers) (numbers : List ℕ) (few : length os ≤ 3200000) (cheap : All (λ o. o.cost ≤ 16000000) os) (zero_at : (x : ℕ) → IsTrue (set.contains s x) → number_at numbers x ≤ 0) where
  small : (k : ℕ) (o : Operator) → k ≤ length os → o.cost ≤ 16000000 → IfSome (cost_by (after_rounds os s k) o) (λ n. n < unknown)
  small k o le fits = by (cost_by (after_rounds os s k) o) (cost-Below (k * 16000000) 16000000 (after_rounds os s k) o fits (rounds-Below os s 16000000 cheap k))
    where
      by : (a : Option ℕ) → Below (16000000 + k * 16000000) a → IfSome a (λ n. n < unknown)
      by None h = tt
      by (Some n) h = omega arith

  -- after so many rounds values are no lower than numbers, or than the bound below which operators are served
  no_lower : (n : ℕ) → ServesBelow os numbers n → (k : ℕ) → k ≤ length os + 1 → (x : ℕ) → AtMost (cut numbers n x) (after_rounds os s k x)
  no_lower n serves zero le x = subst (AtMost (cut numbers n x)) (sym (first_round os s x)) tt
  no_lower n serves (suc k) le x =
      subst (AtMost (cut numbers n x)) (sym (next_round os s k x)) (by (no_lower n serves k (omega arith)) (set.contains s x) refl)
    where
      at_zero : set.contains s x ≡ true → AtMost (cut numbers n x) (Some 0)
      at_zero member =
          let none : min (number_at numbers x) n ≡ 0 = let z = zero_at x member in omega arith in
          subst (λ m. AtMost (known m) (Some 0)) (sym none) (AtMost-refl (Some 0))

      by_one : ((y : ℕ) → AtMost (cut numbers n y) (after_rounds os s k y)) → (j : ℕ) → j < length os → adds (operator_at os j) x ≡ true → AtMost (cut numbers n x) (cost_by (after_rounds os s k) (operator_at os j))
      by_one before j lt adding = ⊎_elim
          (λ all.
          AtMost-trans (cut numbers n x) (value_at numbers x) _ (known-mono (min (number_at numbers x) n) (number_at numbers x) (omega arith))
          (AtMost-trans (value_at numbers x) (capped (cost_by (value_at numbers) (operator_at os j))) _
          (All_at (λ y. AtMost (value_at numbers y) (capped (cost_by (value_at numbers) (operator_at os j)))) (operator_at os j).add x (serves j lt all) adding)
          (capped_below (cost_by (value_at numbers) (operator_at os j)) (cost_by (after_rounds os s k) (operator_at os j))
          (cost_by-mono (value_at numbers) (after_rounds os s k) (operator_at os j)
          (λ i d within.
          let less = all i d within in
          let own : min (number_at numbers (get_or (operator_at os j).pre i d)) n ≡ number_at numbers (get_or (operator_at os j).pre i d) = omega arith in
          subst (λ m. AtMost (known m) (after_rounds os s k (get_or (operator_at os j).pre i d))) own (before (get_or (operator_at os j).pre i d))))
          (small k (operator_at os j) (omega arith) (cheap j _ lt)))))
          (λ one.
          let own : min (number_at numbers one.0) n ≡ n = let more = one.2 in omega arith in
          let most : Option ℕ = greatest (after_rounds os s k) (operator_at os j).pre in
          AtMost-trans (cut numbers n x) (known n) _ (known-mono (min (number_at numbers x) n) n (omega arith))
          (AtMost-trans (known n) (after_rounds os s k one.0) _ (subst (λ m. AtMost (known m) (after_rounds os s k one.0)) own (before one.0))
          (AtMost-trans (after_rounds os s k one.0) most _
          (All-contains (λ y. AtMost (after_rounds os s k y) most) (operator_at os j).pre one.0 (greatest_above (after_rounds os s k) (operator_at os j).pre) one.1)
          (plus_above (operator_at os j).cost most))))
          (all_or_one numbers n (operator_at os j).pre)

      by : ((y : ℕ) → AtMost (cut numbers n y) (after_rounds os s k y)) → (b : Bool) → set.contains s x ≡ b → AtMost (cut numbers n x) (cond b (Some 0) (least_cost (after_rounds os s k) os x))
      by before true member = at_zero member
      by before false member =
          least_above (after_rounds os s k) (cut numbers n x) x os
          (All-from_get_or (λ o. adds o x ≡ true → AtMost (cut numbers n x) (cost_by (after_rounds os s k) o)) os (record { pre = []; add = []; del = []; cost = 0 }) (by_one before))

  -- a number of at most the bound is no greater than the value
  own_value : (n : ℕ) → ServesBelow os numbers n → (x : ℕ) → number_at numbers x ≤ n → AtMost (value_at numbers x) (fact_values os s x)
  own_value n serves x le =
      let own : min (number_at numbers x) n ≡ number_at numbers x = omega arith in
      subst (λ m. AtMost (known m) (fact_values os s x)) own (no_lower n serves (length os + 1) (omega arith) x)

  module _ (below : (values : Values) → AreLow os values → ((x : ℕ) → IsTrue (set.contains s x) → AtMost (values x) (Some 0)) → AreBelow values numbers) where
    not_above : (x : ℕ) → AtMost (fact_values os s x) (value_at numbers x)
    not_above = below (fact_values os s) (are_low os s) (start_zero os s)

    pub found : ((k : ℕ) → k < length os → IsServed os numbers [] k) → (x : ℕ) → value_at numbers x ≡ fact_values os s x
    found served x =
        AtMost-antisym (value_at numbers x) (fact_values os s x)
        (own_value (number_at numbers x) (serves_all os numbers (number_at numbers x) served) x (omega arith))
        (not_above x)

    pub found_greatest : (facts : List ℕ) → AreSettled os numbers facts → greatest (value_at numbers) facts ≡ greatest (fact_values os s) facts
    found_greatest facts settled =
        AtMost-antisym (greatest (value_at numbers) facts) (greatest (fact_values os s) facts)
        (greatest-mono (value_at numbers) (fact_values os s) facts (λ i d lt. own_value settled.bound settled.serves (get_or facts i d) (settled.low i d lt)))
        (greatest-mono (fact_values os s) (value_at numbers) facts (λ i d lt. not_above (get_or facts i d)))

-- what the search leaves of a relaxed problem and a state
pub record HasFound (r : RelaxedProblem) (p q : Numbers) (size : ℕ) (numbers : List ℕ) : Type 0 where
  pub zero_publics : (x : ℕ) → IsTrue (set.contains p x) → number_at numbers (0 + x) ≤ 0
  pub zero_privates : (x : ℕ) → IsTrue (set.contains q x) → number_at numbers (r.publics + x) ≤ 0
  pub below :
      (values : Values)
      → AreLow r.operators values
      → ((x : ℕ) → x < r.publics → IsTrue (set.contains p x) → AtMost (values (0 + x)) (Some 0))
      → ((x : ℕ) → x < size → IsTrue (set.contains q x) → AtMost (values (r.publics + x)) (Some 0))
      → AreBelow values numbers

module _ (r : RelaxedProblem) (p q : Numbers) (size : ℕ) (numbers : List ℕ) (few : length r.operators ≤ 3200000) (cheap : All (λ o. o.cost ≤ 16000000) r.operators) (all : r.publics + size ≡ r.facts) (has : HasFound r p q size numbers) where
  at : (x : ℕ) → set.contains (state_of r p q) x ≡ (ltb x r.facts && cond (ltb x r.publics) (set.contains p x) (set.contains q (x - r.publics)))
  at x = contains-numbers_below r.facts (λ y. cond (ltb y r.publics) (set.contains p y) (set.contains q (y - r.publics))) x

  zero_at : (x : ℕ) → IsTrue (set.contains (state_of r p q) x) → number_at numbers x ≤ 0
  zero_at x member = ⊎_elim
      (λ low.
      subst (λ y. number_at numbers y ≤ 0) (let e : 0 + x ≡ x = omega arith in e)
      (has.zero_publics x (sym (ap (λ b. cond b (set.contains p x) (set.contains q (x - r.publics))) (lt-ltb x r.publics low)) ∙ (and_parts _ _ (sym (at x) ∙ member)).1)))
      (λ high.
      subst (λ y. number_at numbers y ≤ 0) (let e : r.publics + (x - r.publics) ≡ x = omega arith in e)
      (has.zero_privates (x - r.publics) (sym (ap (λ b. cond b (set.contains p x) (set.contains q (x - r.publics))) (le-ltb x r.publics high)) ∙ (and_parts _ _ (sym (at x) ∙ member)).1)))
      (cases_lt x r.publics)

  public_in : (x : ℕ) → x < r.publics → IsTrue (set.contains p x) → IsTrue (set.contains (state_of r p q) (0 + x))
  public_in x lt member =
      subst (λ y. set.contains (state_of r p q) y ≡ true) (let e : x ≡ 0 + x = omega arith in e)
      (at x ∙ and_from _ _ (lt-ltb x r.facts (omega arith)) (ap (λ b. cond b (set.contains p x) (set.contains q (x - r.publics))) (lt-ltb x r.publics lt) ∙ member))

  private_in : (x : ℕ) → x < size → IsTrue (set.contains q x) → IsTrue (set.contains (state_of r p q) (r.publics + x))
  private_in x lt member =
      at (r.publics + x)
      ∙ and_from _ _ (lt-ltb (r.publics + x) r.facts (omega arith))
      (ap (λ b. cond b (set.contains p (r.publics + x)) (set.contains q ((r.publics + x) - r.publics))) (le-ltb (r.publics + x) r.publics (omega arith))
      ∙ ap (set.contains q) (let e : (r.publics + x) - r.publics ≡ x = omega arith in e) ∙ member)

  below_all : (values : Values) → AreLow r.operators values → ((x : ℕ) → IsTrue (set.contains (state_of r p q) x) → AtMost (values x) (Some 0)) → AreBelow values numbers
  below_all values low zeros =
      has.below values low (λ y lt member. zeros (0 + y) (public_in y lt member)) (λ y lt member. zeros (r.publics + y) (private_in y lt member))

  pub are_found : (wanted : List ℕ) → (length wanted ≡ 0 → (k : ℕ) → k < length r.operators → IsServed r.operators numbers [] k) → AreSettled r.operators numbers wanted → AreFound r p q wanted numbers
  are_found wanted served settled = record {
    most = found_greatest r.operators (state_of r p q) numbers few cheap zero_at below_all wanted settled;
    values = λ none. found r.operators (state_of r p q) numbers few cheap zero_at below_all (served none);
  }
