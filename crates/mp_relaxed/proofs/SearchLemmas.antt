-- Numbers and the queue in the search.
use Rattle.std.proofs.Common.{◌≡◌, ◌≢◌, ℕ, zero, suc, ◌+◌, ◌<◌, ◌≤◌, true, max, Option, Some, None, option_map, List, [], ◌∷◌, length, get_or, All, Contains, refl, sym, ap, ◌∙◌, subst, ⊎_elim, get_or-set_other, arith}
use Rattle.std.proofs.Math.ListN.{set as set_at}
use Rattle.std.proofs.lemmas.Bool.{cases_lt}
use Rattle.std.proofs.lemmas.List.Elements.{All-cons, Contains-append_cases}
use Rattle.std.proofs.lemmas.List.Sorted.{All-permutation, Contains-permutation, IsPermutation-sym}
use Rattle.std.specs.List.Sorted.{IsPermutation}
use Rattle.mp_task.specs.Strips.{Operator}
use Rattle.mp_estimates.specs.Estimates.{AtMost, greater, Values}
use Rattle.mp_estimates.proofs.LoweringLemmas.{known-none, known-some, known-mono, popped_quiet, none_at}
use Rattle.mp_relaxed.specs.Values.{greatest, cost_by, adds}
use Rattle.mp_relaxed.specs.Relaxed.{operator_at}
use Rattle.mp_estimates.specs.Lowering.{unknown, known, number_at, value_at, Key, key, HaveFallen, AreBelow}
use Rattle.mp_relaxed.specs.Search.{HaveStayed, capped, IsServed, AreLow}
use Rattle.mp_relaxed.specs.Laws.Equations.{cost_by-mono}
use Rattle.mp_estimates.specs.Laws.Order.{AtMost-refl, AtMost-trans}

-- the greatest value of a list, its first value after another

pub greater-assoc : (a b c : Option ℕ) → greater (greater a b) c ≡ greater a (greater b c)
greater-assoc None b c = refl
greater-assoc (Some l) None c = refl
greater-assoc (Some l) (Some m) None = refl
greater-assoc (Some l) (Some m) (Some n) = let e : max (max l m) n ≡ max l (max m n) = omega arith in ap Some e

pub greater-none : (a : Option ℕ) → greater a None ≡ None
greater-none None = refl
greater-none (Some m) = refl

pub greater-zero : (a : Option ℕ) → greater (Some 0) a ≡ a
greater-zero None = refl
greater-zero (Some m) = let e : max 0 m ≡ m = omega arith in ap Some e

pub zero-greater : (a : Option ℕ) → greater a (Some 0) ≡ a
zero-greater None = refl
zero-greater (Some m) = let e : max m 0 ≡ m = omega arith in ap Some e

pub known-max : (m n : ℕ) → known (max m n) ≡ greater (known m) (known n)
known-max m n = ⊎_elim
    (λ h. ⊎_elim
    (λ k. known-some (max m n) (omega arith) ∙ sym (λ i. greater (known-some m h i) (known-some n k i)))
    (λ k. known-none (max m n) (omega arith) ∙ sym (ap (λ b. greater (known m) b) (known-none n k) ∙ greater-none (known m)))
    (cases_lt n unknown))
    (λ h. known-none (max m n) (omega arith) ∙ sym (ap (λ a. greater a (known n)) (known-none m h)))
    (cases_lt m unknown)

-- numbers that stay

pub stayed_trans : (n : ℕ) (a : List ℕ) (p : List Key) (b : List ℕ) (q : List Key) (c : List ℕ) (r : List Key) → HaveStayed n a p b q → HaveStayed n b q c r → HaveStayed n a p c r
stayed_trans n a p b q c r h k = record {
  same = λ x low.
      let one = h.same x low in
      k.same x (omega arith) ∙ one;
  calm = λ x low still.
      let one = h.same x low in
      k.calm x (omega arith) (h.calm x low still);
  above = λ all. k.above (h.above all);
}

-- a number has been lowered, and its fact waits

module _ (numbers : List ℕ) (queue after : List Key) (x cost : ℕ) (less : cost < number_at numbers x) (pushed : IsPermutation (key cost x ∷ queue) after) where
  stays_at : (n : ℕ) → n ≤ cost → (y : ℕ) → number_at numbers y ≤ n → y ≢ x
  stays_at n le y low e = let same = ap (number_at numbers) e in absurd (omega arith)

  pub stayed_one : (n : ℕ) → n ≤ cost → HaveStayed n numbers queue (set_at numbers x cost) after
  stayed_one n le = record {
    same = λ y low. get_or-set_other numbers x y cost unknown (stays_at n le y low);
    calm = λ y low still waits. ⊎_elim
        (λ here. stays_at n le y low (at_x y here))
        (λ later. still (subst (λ m. Contains queue (key m y)) (get_or-set_other numbers x y cost unknown (stays_at n le y low)) later))
        (Contains-append_cases (key cost x ∷ []) queue (key (number_at (set_at numbers x cost) y) y)
        (Contains-permutation after (key cost x ∷ queue) (key (number_at (set_at numbers x cost) y) y) (IsPermutation-sym (key cost x ∷ queue) after pushed) waits));
    above = λ all. All-permutation (λ (k : Key). n ≤ k.0) (key cost x ∷ queue) after pushed (All-cons (λ (k : Key). n ≤ k.0) (key cost x) queue le all);
  }
    where
      at_x : (y : ℕ) → Contains (key cost x ∷ []) (key (number_at (set_at numbers x cost) y) y) → y ≡ x
      at_x y (zero, lt, e) = sym (ap (λ (k : Key). k.1) e)
      at_x y (suc i, lt, e) = absurd (omega arith)

pub capped-mono : (a b : Option ℕ) → AtMost a b → AtMost (capped a) (capped b)
capped-mono a None h = tt
capped-mono None (Some n) h = absurd h
capped-mono (Some m) (Some n) h = known-mono m n h

-- an operator that has been served stays so
pub served_kept : (os : List Operator) (old : List ℕ) (before : List Key) (new : List ℕ) (after : List Key) (k : ℕ) → HaveFallen old before new after → IsServed os old before k → IsServed os new after k
served_kept os old before new after k fallen served quiet =
    λ j d h.
    AtMost-trans _ (value_at old (get_or (operator_at os k).add j d)) _
    (known-mono _ _ (fallen.lower (get_or (operator_at os k).add j d)))
    (AtMost-trans _ _ _ (served (λ i e lt. (fallen.quiet _ (quiet i e lt)).1) j d h)
    (capped-mono _ _ (cost_by-mono (value_at old) (value_at new) (operator_at os k)
    (λ i e lt. subst (λ n. AtMost (known (number_at old (get_or (operator_at os k).pre i e))) (known n)) (sym (fallen.quiet _ (quiet i e lt)).0) (AtMost-refl _)))))

-- what an operator's adds cost by it, from the greatest number of its preconditions

pub cost_is : (numbers : List ℕ) (o : Operator) (most : ℕ) → known most ≡ greatest (value_at numbers) o.pre → o.cost + most < unknown → cost_by (value_at numbers) o ≡ Some (o.cost + most)
cost_is numbers o most e less =
    ap (option_map (λ h. o.cost + h)) (sym (sym (known-some most (omega arith)) ∙ e))

-- an operator by which its adds have no cost is served
pub none_served : (os : List Operator) (numbers : List ℕ) (queue : List Key) (k : ℕ) → capped (cost_by (value_at numbers) (operator_at os k)) ≡ None → IsServed os numbers queue k
none_served os numbers queue k none quiet = λ j d h.
    subst (AtMost (value_at numbers (get_or (operator_at os k).add j d))) (sym none) tt

-- an operator whose adds have numbers of at most their cost by it is served
pub relax_served : (os : List Operator) (old : List ℕ) (before : List Key) (new : List ℕ) (after : List Key) (k most cost : ℕ) → HaveFallen old before new after → known most ≡ greatest (value_at old) (operator_at os k).pre → (operator_at os k).cost + most < unknown → cost ≡ (operator_at os k).cost + most → All (λ y. number_at new y ≤ cost) (operator_at os k).add → IsServed os new after k
relax_served os old before new after k most cost fallen e less is done quiet =
    λ j d h.
    AtMost-trans (value_at new (get_or (operator_at os k).add j d)) (known cost) _ (known-mono _ cost (done j d h))
    (subst (λ n. AtMost (known n) (capped (cost_by (value_at new) (operator_at os k)))) (sym is)
    (capped-mono (Some ((operator_at os k).cost + most)) _
    (subst (λ a. AtMost a (cost_by (value_at new) (operator_at os k))) (cost_is old (operator_at os k) most e less)
    (cost_by-mono (value_at old) (value_at new) (operator_at os k)
    (λ i f lt. subst (λ n. AtMost (known (number_at old (get_or (operator_at os k).pre i f))) (known n)) (sym (fallen.quiet _ (quiet i f lt)).0) (AtMost-refl _))))))

-- values that the operators keep low are at most the cost by an operator
pub low_cost : (os : List Operator) (numbers : List ℕ) (values : Values) (k x most cost : ℕ) → AreLow os values → AreBelow values numbers → k < length os → adds (operator_at os k) x ≡ true → known most ≡ greatest (value_at numbers) (operator_at os k).pre → (operator_at os k).cost + most < unknown → cost ≡ (operator_at os k).cost + most → AtMost (values x) (known cost)
low_cost os numbers values k x most cost low below within adding e less is =
    subst (AtMost (values x)) (sym (known-some cost (omega arith)))
    (subst (λ n. AtMost (values x) (Some n)) (sym is)
    (subst (AtMost (values x)) (cost_is numbers (operator_at os k) most e less)
    (AtMost-trans (values x) (cost_by values (operator_at os k)) _ (low k x within adding)
    (cost_by-mono values (value_at numbers) (operator_at os k) (λ _ _ _. below _)))))

-- what is left of the queue when an entry has gone

pub served_popped : (os : List Operator) (numbers : List ℕ) (queue rest : List Key) (cost x k : ℕ) → IsPermutation queue (key cost x ∷ rest) → All (λ y. y ≡ x → number_at numbers y ≡ cost → ⊥) (operator_at os k).pre → IsServed os numbers queue k → IsServed os numbers rest k
served_popped os numbers queue rest cost x k popped other served quiet =
    served (λ i e lt. popped_quiet numbers queue rest cost x _ popped (other i e lt) (quiet i e lt))

-- before a search

pub begin_served : (os : List Operator) (numbers : List ℕ) (queue : List Key) (k y : ℕ) (ys : List ℕ) → All (λ n. n ≡ unknown) numbers → (operator_at os k).pre ≡ y ∷ ys → IsServed os numbers queue k
begin_served os numbers queue k y ys none e =
    none_served os numbers queue k
    (ap (λ xs. capped (option_map (λ h. (operator_at os k).cost + h) (greatest (value_at numbers) xs))) e
    ∙ (λ i. capped (option_map (λ h. (operator_at os k).cost + h) (greater (known (none_at numbers none y i)) (greatest (value_at numbers) ys)))))

-- each operator is served where those without preconditions have been
pub all_served : (os : List Operator) (old : List ℕ) (before : List Key) (new : List ℕ) (after : List Key) (k : ℕ) → All (λ n. n ≡ unknown) old → HaveFallen old before new after → ((operator_at os k).pre ≡ [] → IsServed os new after k) → IsServed os new after k
all_served os old before new after k none fallen free = by (operator_at os k).pre refl
  where
    by : (xs : List ℕ) → (operator_at os k).pre ≡ xs → IsServed os new after k
    by [] e = free e
    by (y ∷ ys) e = served_kept os old before new after k fallen (begin_served os old before k y ys none e)
