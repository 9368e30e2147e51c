-- Facts that are settled, and counts of preconditions that are not.
use Rattle.std.proofs.Common.{◌≡◌, ℕ, ◌+◌, ◌-◌, ◌<◌, ◌≤◌, Bool, true, false, cond, eqb, max, List, [], ◌∷◌, length, All, Contains, refl, sym, ap, ◌∙◌, subst, arith}
use Rattle.std.proofs.lemmas.Bool.{eqb-true}
use Rattle.std.proofs.lemmas.List.Elements.{All-nil, All-cons, All-head, All-tail, Contains-append_right, Contains-append_left}
use Rattle.std.proofs.lemmas.List.Sorted.{All-permutation, Contains-permutation, IsPermutation-sym}
use Rattle.std.specs.List.Sorted.{IsPermutation}
use Rattle.mp_task.specs.Strips.{Operator}
use Rattle.mp_estimates.specs.Estimates.{greater}
use Rattle.mp_relaxed.specs.Values.{greatest}
use Rattle.mp_relaxed.specs.Relaxed.{operator_at}
use Rattle.mp_estimates.specs.Lowering.{known, number_at, value_at, Key, key, Waits, IsProper}
use Rattle.mp_relaxed.specs.Search.{AreFrom, IsSettled, AllBut, CountUnsettled, HaveStayed, IsMost, count_at, AreLowered}
use Rattle.mp_relaxed.specs.Search.AllBut.{empty, such, spared}
use Rattle.mp_relaxed.specs.Users.{times}
use Rattle.mp_estimates.proofs.ProperLemmas.{waits_no_more}
use Rattle.mp_relaxed.proofs.SearchLemmas.{greater-assoc, zero-greater, known-max}

-- all but so many

pub all_but_kept : (P Q : ℕ → Type 0) (xs : List ℕ) (n : ℕ) → ((x : ℕ) → P x → Q x) → AllBut P xs n → AllBut Q xs n
all_but_kept P Q _ _ f (empty n) = empty n
all_but_kept P Q _ _ f (such x xs n p h) = such x xs n (f x p) (all_but_kept P Q xs n f h)
all_but_kept P Q _ _ f (spared x xs n h) = spared x xs n (all_but_kept P Q xs n f h)

pub all_but_all : (P : ℕ → Type 0) (xs : List ℕ) → AllBut P xs (length xs)
all_but_all P [] = empty 0
all_but_all P (x ∷ xs) =
    subst (AllBut P (x ∷ xs)) (let e : length xs + 1 ≡ length (x ∷ xs) = omega arith in e)
    (spared x xs (length xs) (all_but_all P xs))

pub all_but_none : (P : ℕ → Type 0) (xs : List ℕ) (n : ℕ) → n ≡ 0 → AllBut P xs n → All P xs
all_but_none P _ _ e (empty n) = All-nil P
all_but_none P _ _ e (such x xs n p h) = All-cons P x xs p (all_but_none P xs n e h)
all_but_none P _ _ e (spared x xs n h) = absurd (omega arith)

-- what is not such is spared each time
all_but_times : (P : ℕ → Type 0) (x : ℕ) (xs : List ℕ) (n : ℕ) → (P x → ⊥) → AllBut P xs n → times x xs ≤ n
all_but_times P x _ _ ne (empty n) = omega arith
all_but_times P x _ _ ne (such y ys n p h) = by (eqb y x) refl (all_but_times P x ys n ne h)
  where
    by : (b : Bool) → eqb y x ≡ b → times x ys ≤ n → cond b (times x ys + 1) (times x ys) ≤ n
    by true e le = absurd (ne (subst P (eqb-true y x e) p))
    by false e le = le
all_but_times P x _ _ ne (spared y ys n h) = by (eqb y x) (all_but_times P x ys n ne h)
  where
    by : (b : Bool) → times x ys ≤ n → cond b (times x ys + 1) (times x ys) ≤ n + 1
    by true le = omega arith
    by false le = omega arith

-- where one more number is such, as often as it stands there fewer are spared
pub all_but_one_more : (P Q : ℕ → Type 0) (x : ℕ) (xs : List ℕ) (n : ℕ) → (P x → ⊥) → Q x → ((y : ℕ) → P y → Q y) → AllBut P xs n → AllBut Q xs (n - times x xs)
all_but_one_more P Q x _ _ ne q f (empty n) = empty (n - times x [])
all_but_one_more P Q x _ _ ne q f (such y ys n p h) = by (eqb y x) refl (all_but_one_more P Q x ys n ne q f h)
  where
    by : (b : Bool) → eqb y x ≡ b → AllBut Q ys (n - times x ys) → AllBut Q (y ∷ ys) (n - cond b (times x ys + 1) (times x ys))
    by true e k = absurd (ne (subst P (eqb-true y x e) p))
    by false e k = such y ys (n - times x ys) (f y p) k
all_but_one_more P Q x _ _ ne q f (spared y ys n h) =
    by (eqb y x) refl (all_but_times P x ys n ne h) (all_but_one_more P Q x ys n ne q f h)
  where
    by : (b : Bool) → eqb y x ≡ b → times x ys ≤ n → AllBut Q ys (n - times x ys) → AllBut Q (y ∷ ys) ((n + 1) - cond b (times x ys + 1) (times x ys))
    by true e le k =
        subst (AllBut Q (y ∷ ys)) (let same : n - times x ys ≡ (n + 1) - (times x ys + 1) = omega arith in same)
        (such y ys (n - times x ys) (subst Q (sym (eqb-true y x e)) q) k)
    by false e le k =
        subst (AllBut Q (y ∷ ys)) (let same : (n - times x ys) + 1 ≡ (n + 1) - times x ys = omega arith in same)
        (spared y ys (n - times x ys) k)

-- the greatest number of some facts

most_under : (numbers : List ℕ) (n : ℕ) (facts : List ℕ) → All (λ y. number_at numbers y ≤ n) facts → greater (known n) (greatest (value_at numbers) facts) ≡ known n
most_under numbers n [] h = zero-greater (known n)
most_under numbers n (y ∷ ys) h =
    let le = All-head (λ y. number_at numbers y ≤ n) y ys h in
    let same : max n (number_at numbers y) ≡ n = omega arith in
    sym (greater-assoc (known n) (value_at numbers y) (greatest (value_at numbers) ys))
    ∙ ap (λ a. greater a (greatest (value_at numbers) ys)) (sym (known-max n (number_at numbers y)) ∙ ap known same)
    ∙ most_under numbers n ys (All-tail (λ y. number_at numbers y ≤ n) y ys h)

most_is : (numbers : List ℕ) (n x : ℕ) (facts : List ℕ) → All (λ y. number_at numbers y ≤ n) facts → number_at numbers x ≡ n → 1 ≤ times x facts → known n ≡ greatest (value_at numbers) facts
most_is numbers n x [] h is some = absurd (omega arith)
most_is numbers n x (y ∷ ys) h is some =
    by (eqb y x) refl some (most_is numbers n x ys (All-tail (λ y. number_at numbers y ≤ n) y ys h) is)
  where
    by : (b : Bool) → eqb y x ≡ b → 1 ≤ cond b (times x ys + 1) (times x ys) → (1 ≤ times x ys → known n ≡ greatest (value_at numbers) ys) → known n ≡ greatest (value_at numbers) (y ∷ ys)
    by true e _ rest =
        sym (most_under numbers n ys (All-tail (λ y. number_at numbers y ≤ n) y ys h))
        ∙ ap (λ m. greater (known m) (greatest (value_at numbers) ys)) (sym (ap (number_at numbers) (eqb-true y x e) ∙ is))
    by false e some rest =
        let le = All-head (λ y. number_at numbers y ≤ n) y ys h in
        let same : max (number_at numbers y) n ≡ n = omega arith in
        sym (sym (known-max (number_at numbers y) n) ∙ ap known same) ∙ ap (greater (value_at numbers y)) (rest some)

greatest_stayed : (n : ℕ) (old : List ℕ) (before : List Key) (new : List ℕ) (after : List Key) (facts : List ℕ) → HaveStayed n old before new after → All (λ y. number_at old y ≤ n) facts → greatest (value_at old) facts ≡ greatest (value_at new) facts
greatest_stayed n old before new after [] stayed h = refl
greatest_stayed n old before new after (y ∷ ys) stayed h =
    let same = sym (stayed.same y (All-head (λ y. number_at old y ≤ n) y ys h)) in
    let rest = greatest_stayed n old before new after ys stayed (All-tail (λ y. number_at old y ≤ n) y ys h) in
    λ i. greater (known (same i)) (rest i)

pub most_stayed : (n : ℕ) (old : List ℕ) (before : List Key) (new : List ℕ) (after : List Key) (facts : List ℕ) → HaveStayed n old before new after → IsMost n old facts → IsMost n new facts
most_stayed n old before new after facts stayed most = record {
  at_most = λ i d lt.
      let le = most.at_most i d lt in
      let same = stayed.same _ le in
      omega arith;
  is = most.is ∙ greatest_stayed n old before new after facts stayed most.at_most;
}

-- an entry has been taken out of the queue

module _ (numbers : List ℕ) (queue rest : List Key) (cost x : ℕ) (popped : IsPermutation queue (key cost x ∷ rest)) where
  settled_rest : (y : ℕ) → IsSettled numbers queue y → IsSettled numbers rest y
  settled_rest y settled = (
    λ waits. settled.0 (Contains-permutation (key cost x ∷ rest) queue (key (number_at numbers y) y) (IsPermutation-sym queue (key cost x ∷ rest) popped)
        (Contains-append_right (key cost x ∷ []) rest (key (number_at numbers y) y) waits)),
    All-tail (λ (k : Key). number_at numbers y ≤ k.0) (key cost x) rest
        (All-permutation (λ (k : Key). number_at numbers y ≤ k.0) queue (key cost x ∷ rest) popped settled.1),
  )

  settled_below : (y : ℕ) → IsSettled numbers queue y → number_at numbers y ≤ cost
  settled_below y settled =
      All-head (λ (k : Key). number_at numbers y ≤ k.0) (key cost x) rest
      (All-permutation (λ (k : Key). number_at numbers y ≤ k.0) queue (key cost x ∷ rest) popped settled.1)

  -- an entry that is out of date has gone
  pub unsettled_stale : (os : List Operator) (counts : List ℕ) → CountUnsettled os numbers queue counts → CountUnsettled os numbers rest counts
  unsettled_stale os counts count = λ k within.
      all_but_kept (IsSettled numbers queue) (IsSettled numbers rest) (operator_at os k).pre (count_at counts k) settled_rest (count k within)

  module _ (os : List Operator) (counts users : List ℕ) (is : number_at numbers x ≡ cost) (has : (k : ℕ) → k < length os → times x (operator_at os k).pre ≡ times k users) (count : CountUnsettled os numbers queue counts) where
    waited : IsSettled numbers queue x → ⊥
    waited settled =
        settled.0 (subst (λ n. Contains queue (key n x)) (sym is)
        (Contains-permutation (key cost x ∷ rest) queue (key cost x) (IsPermutation-sym queue (key cost x ∷ rest) popped)
        (Contains-append_left (key cost x ∷ []) rest (key cost x) (0, (let h : 0 < 1 = omega arith in h), refl))))

    -- an operator whose count is no more than how often it has the fact has no greater precondition
    pub reached : (k : ℕ) → k < length os → 1 ≤ times k users → count_at counts k ≤ times k users → IsMost cost numbers (operator_at os k).pre
    reached k within some low =
        let often = has k within in
        let all =
        all_but_none (λ y. number_at numbers y ≤ cost) (operator_at os k).pre (count_at counts k - times x (operator_at os k).pre) (omega arith)
        (all_but_one_more (IsSettled numbers queue) (λ y. number_at numbers y ≤ cost) x (operator_at os k).pre (count_at counts k) waited (omega arith) settled_below (count k within)) in
        record { at_most = all; is = most_is numbers cost x (operator_at os k).pre all is (omega arith) }

    module _ (proper : IsProper numbers queue) (from : AreFrom cost queue) (new : List ℕ) (after : List Key) (fewer : List ℕ) (stayed : HaveStayed cost numbers rest new after) (lowered : AreLowered counts users fewer) where
      settled_now : (y : ℕ) → number_at numbers y ≤ cost → ¬ Waits numbers rest y → IsSettled new after y
      settled_now y le still = (
        stayed.calm y le still,
        λ i d lt.
            let above = stayed.above (All-tail (λ (k : Key). cost ≤ k.0) (key cost x) rest (All-permutation (λ (k : Key). cost ≤ k.0) queue (key cost x ∷ rest) popped from)) i d lt in
            let same = stayed.same y le in
            omega arith,
      )

      -- a fact has been settled, and its users have been counted down
      pub unsettled_settled : CountUnsettled os new after fewer
      unsettled_settled = λ k within.
          let often = has k within in
          let less = lowered k in
          subst (AllBut (IsSettled new after) (operator_at os k).pre) (let e : count_at counts k - times x (operator_at os k).pre ≡ count_at fewer k = omega arith in e)
          (all_but_one_more (IsSettled numbers queue) (IsSettled new after) x (operator_at os k).pre (count_at counts k) waited
          (settled_now x (omega arith) (waits_no_more numbers queue rest cost x popped proper is))
          (λ y settled. settled_now y (settled_below y settled) (settled_rest y settled).0)
          (count k within))

-- at the start no precondition has to be settled
pub unsettled_begin : (os : List Operator) (numbers : List ℕ) (queue : List Key) (counts : List ℕ) → ((k : ℕ) → count_at counts k ≡ length (operator_at os k).pre) → CountUnsettled os numbers queue counts
unsettled_begin os numbers queue counts same = λ k within.
    subst (AllBut (IsSettled numbers queue) (operator_at os k).pre) (sym (same k)) (all_but_all (IsSettled numbers queue) (operator_at os k).pre)
