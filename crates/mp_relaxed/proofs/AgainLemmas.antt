-- Values that are found again where some operators got cheaper: the others are served, and no number is too low.
use Rattle.std.proofs.Common.{◌≡◌, ℕ, suc, ◌+◌, ◌<◌, ◌≤◌, Bool, true, false, cond, eqb, Option, Some, None, option_map, List, [], ◌∷◌, length, get_or, All, Contains, IsTrue, refl, sym, ap, ◌∙◌, subst, ⊎_elim, arith}
use Rattle.std.proofs.lemmas.Bool.{cases_eq, cases_lt, eqb-true}
use Rattle.std.proofs.lemmas.List.{get_or_default}
use Rattle.std.proofs.lemmas.List.Elements.{All-contains, All-from_get_or, Contains-get_or}
use Rattle.std.specs.FinSet as set
use Rattle.std.specs.List.{list_any}
use Rattle.std.specs.List.Sorted.{IsPermutation}
use Rattle.mp_sets.specs.Numbers.{Numbers}
use Rattle.mp_sets.proofs.NumbersLemmas.{among_itself}
use Rattle.mp_task.specs.Strips.{Operator}
use Rattle.mp_estimates.specs.Estimates.{AtMost, Values}
use Rattle.mp_estimates.specs.Laws.Order.{AtMost-refl, AtMost-trans, plus-mono}
use Rattle.mp_estimates.specs.Lowering.{unknown, known, number_at, value_at, Key, key, HaveFallen, AreBelow}
use Rattle.mp_estimates.proofs.LoweringLemmas.{known-mono, known-none, known-some}
use Rattle.mp_relaxed.specs.Values.{greatest, cost_by, adds, least_cost, next_values, fact_values}
use Rattle.mp_relaxed.specs.Relaxed.{AreCheaper, HasUsers, operator_at}
use Rattle.mp_relaxed.specs.Search.{capped, IsServed, AreLow}
use Rattle.mp_relaxed.specs.Users.{times}
use Rattle.mp_relaxed.specs.Laws.Bounds.{start_zero}
use Rattle.mp_relaxed.specs.Laws.Equations.{greatest_above, least_above}
use Rattle.mp_relaxed.specs.Laws.Rounds.{below_rounds}
use Rattle.mp_relaxed.proofs.TimesLemmas.{times_contained}
use Rattle.mp_relaxed.proofs.SearchLemmas.{capped-mono, served_kept, served_popped}
use Rattle.mp_relaxed.proofs.Found.{are_low}

pub times_some : (k : ℕ) (xs : List ℕ) → 1 ≤ times k xs → Contains xs k
times_some k [] h = absurd (omega (arith, h))
times_some k (x ∷ xs) h = by (eqb x k) refl h (times_some k xs)
  where
    by : (b : Bool) → eqb x k ≡ b → 1 ≤ cond b (times k xs + 1) (times k xs) → (1 ≤ times k xs → Contains xs k) → Contains (x ∷ xs) k
    by true e many rest = (0, (let lt : 0 < length (x ∷ xs) = omega arith in lt), eqb-true x k e)
    by false e many rest =
        let later = rest many in
        (suc later.0, (let lt = later.1 in let le : suc later.0 < length (x ∷ xs) = omega arith in le), later.2)

-- an operator that could lower nothing, if no precondition had a greater number than one of them has, is served

known_above : (n : ℕ) → AtMost (Some n) (known n)
known_above n = ⊎_elim
    (λ lt. subst (AtMost (Some n)) (sym (known-some n lt)) (AtMost-refl (Some n)))
    (λ ge. subst (AtMost (Some n)) (sym (known-none n ge)) tt)
    (cases_lt n unknown)

pub numbers_low : (numbers items : List ℕ) (cost : ℕ) → All (λ y. number_at numbers y ≤ cost) items → All (λ y. AtMost (value_at numbers y) (known cost)) items
numbers_low numbers items cost low = λ j d lt. known-mono (number_at numbers (get_or items j d)) cost (low j d lt)

pub passed_served : (os : List Operator) (numbers : List ℕ) (queue : List Key) (k x : ℕ) → Contains (operator_at os k).pre x → All (λ y. AtMost (value_at numbers y) (known ((operator_at os k).cost + number_at numbers x))) (operator_at os k).add → IsServed os numbers queue k
passed_served os numbers queue k x member done quiet =
    let o : Operator = operator_at os k in
    let most : AtMost (Some (number_at numbers x)) (greatest (value_at numbers) o.pre) =
    AtMost-trans (Some (number_at numbers x)) (value_at numbers x) (greatest (value_at numbers) o.pre) (known_above (number_at numbers x))
    (All-contains (λ y. AtMost (value_at numbers y) (greatest (value_at numbers) o.pre)) o.pre x (greatest_above (value_at numbers) o.pre) member) in
    λ j d lt.
    AtMost-trans (value_at numbers (get_or o.add j d)) (known (o.cost + number_at numbers x)) _ (done j d lt)
    (capped-mono (Some (o.cost + number_at numbers x)) (cost_by (value_at numbers) o)
    (plus-mono o.cost (Some (number_at numbers x)) (greatest (value_at numbers) o.pre) most))

pub user_needs : (os : List Operator) (x : ℕ) (users : List ℕ) (j : ℕ) → HasUsers os x users → j < length users → get_or users j 0 < length os → Contains (operator_at os (get_or users j 0)).pre x
user_needs os x users j has lt within =
    let once = times_contained (get_or users j 0) users (Contains-get_or users j 0 lt) in
    let listed = has (get_or users j 0) within in
    times_some x (operator_at os (get_or users j 0)).pre (omega arith)

capped_above : (a c : Option ℕ) → AtMost a c → AtMost a (capped c)
capped_above a None h = tt
capped_above a (Some n) h = ⊎_elim
    (λ lt. subst (AtMost a) (sym (known-some n lt)) h)
    (λ ge. subst (AtMost a) (sym (known-none n ge)) tt)
    (cases_lt n unknown)

known_zero : (n : ℕ) → AtMost (known n) (Some 0) → n ≤ 0
known_zero n h = ⊎_elim
    (λ lt. let le : AtMost (Some n) (Some 0) = subst (λ a. AtMost a (Some 0)) (known-some n lt) h in omega arith)
    (λ ge. absurd (subst (λ a. AtMost a (Some 0)) (known-none n ge) h))
    (cases_lt n unknown)

lower_cost : (m n : ℕ) (a : Option ℕ) → m ≤ n → AtMost (option_map (λ h. m + h) a) (option_map (λ h. n + h) a)
lower_cost m n None le = tt
lower_cost m n (Some h) le = omega arith

module _ (before after : List Operator) (changed : List ℕ) (cheaper : AreCheaper before after changed) (s : Numbers) (numbers : List ℕ) (values : (x : ℕ) → value_at numbers x ≡ fact_values before s x) where
  -- values at the costs before are low, and so are those that the same operators keep low

  adds_same : (k x : ℕ) → adds (operator_at after k) x ≡ adds (operator_at before k) x
  adds_same k x = ap (λ l. list_any (λ y. eqb y x) l) (cheaper.added k)

  cost_same : (k : ℕ) → (operator_at after k).cost ≡ (operator_at before k).cost → cost_by (fact_values before s) (operator_at before k) ≡ cost_by (value_at numbers) (operator_at after k)
  cost_same k e = λ i. option_map (λ h. sym e i + h) (greatest (λ x. sym (values x) i) (sym (cheaper.needed k) i))

  cost_lower : (w : Values) (k : ℕ) → AtMost (cost_by w (operator_at after k)) (cost_by w (operator_at before k))
  cost_lower w k =
      subst (λ l. AtMost (option_map (λ h. (operator_at after k).cost + h) (greatest w l)) (cost_by w (operator_at before k))) (sym (cheaper.needed k))
      (lower_cost (operator_at after k).cost (operator_at before k).cost (greatest w (operator_at before k).pre) (cheaper.lower k))

  -- an operator that costs as much as before is served
  same_served : (queue : List Key) (k : ℕ) → k < length after → (operator_at after k).cost ≡ (operator_at before k).cost → IsServed after numbers queue k
  same_served queue k within e quiet = λ j d lt.
      let y = get_or (operator_at after k).add j d in
      capped_above (value_at numbers y) (cost_by (value_at numbers) (operator_at after k))
      (subst (λ a. AtMost a (cost_by (value_at numbers) (operator_at after k))) (sym (values y))
      (subst (AtMost (fact_values before s y)) (cost_same k e)
      (are_low before s k y (let same = cheaper.as_many in omega arith) (sym (adds_same k y) ∙ among_itself (operator_at after k).add j d lt))))

  -- each operator is served where those that got cheaper have been relaxed
  pub again_served : (start : List Key) (new : List ℕ) (queue : List Key) → HaveFallen numbers start new queue → ((k : ℕ) → Contains changed k → IsServed after new queue k) → (k : ℕ) → k < length after → IsServed after new queue k
  again_served start new queue fallen relaxed k within = ⊎_elim
      (λ e.
      served_kept after numbers start new queue k fallen
      (same_served start k within (cheaper.same k within (λ here. let many = times_contained k changed here in omega arith))))
      (λ ne. relaxed k (times_some k changed (omega arith)))
      (cases_eq (times k changed) 0)

  pub again_zero : (x : ℕ) → set.contains s x ≡ true → number_at numbers x ≤ 0
  again_zero x member =
      known_zero (number_at numbers x) (subst (λ a. AtMost a (Some 0)) (sym (values x)) (start_zero before s x member))

  -- values that the operators keep low are at most the numbers
  pub again_below : (w : Values) → AreLow after w → ((x : ℕ) → IsTrue (set.contains s x) → AtMost (w x) (Some 0)) → AreBelow w numbers
  again_below w low start x =
      subst (AtMost (w x)) (sym (values x)) (below_rounds before s w right (length before + 1) x)
    where
      by_one : (y k : ℕ) → k < length before → adds (operator_at before k) y ≡ true → AtMost (w y) (cost_by w (operator_at before k))
      by_one y k within adding =
          AtMost-trans (w y) (cost_by w (operator_at after k)) (cost_by w (operator_at before k))
          (low k y (let same = cheaper.as_many in omega arith) (adds_same k y ∙ adding))
          (cost_lower w k)

      right : (y : ℕ) → AtMost (w y) (next_values before s w y)
      right y = by (set.contains s y) refl
        where
          by : (b : Bool) → set.contains s y ≡ b → AtMost (w y) (cond b (Some 0) (least_cost w before y))
          by true member = start y member
          by false member =
              least_above w (w y) y before
              (All-from_get_or (λ o. adds o y ≡ true → AtMost (w y) (cost_by w o)) before (record { pre = []; add = []; del = []; cost = 0 }) (by_one y))

-- a fact has been settled, and its users have been relaxed
pub again_settled : (os : List Operator) (numbers : List ℕ) (queue rest : List Key) (cost x : ℕ) (users new : List ℕ) (after : List Key) → IsPermutation queue (key cost x ∷ rest) → HaveFallen numbers rest new after → HasUsers os x users → ((k : ℕ) → Contains users k → IsServed os new after k) → (k : ℕ) → k < length os → IsServed os numbers queue k → IsServed os new after k
again_settled os numbers queue rest cost x users new after popped fallen has relaxed k within served = ⊎_elim
    (λ e.
    served_kept os numbers rest new after k fallen
    (served_popped os numbers queue rest cost x k popped
    (λ i d lt is _. absurd (let many = times_contained x (operator_at os k).pre (i, lt, other d (operator_at os k).pre i lt is) in let same = has k within in omega arith))
    served))
    (λ ne. relaxed k (times_some k users (omega arith)))
    (cases_eq (times k users) 0)
  where
    other : (d : ℕ) (xs : List ℕ) (i : ℕ) → i < length xs → get_or xs i d ≡ x → get_or xs i x ≡ x
    other d xs i lt is = get_or_default xs i x d lt ∙ is
