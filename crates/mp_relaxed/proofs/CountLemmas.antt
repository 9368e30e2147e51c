-- Counts of open preconditions.
use Rattle.std.proofs.Common.{◌≡◌, ℕ, zero, suc, ◌+◌, ◌-◌, ◌<◌, ◌≤◌, Bool, true, false, cond, eqb, max, None, option_map, List, [], ◌∷◌, length, get_or, take, All, refl, sym, ap, ◌∙◌, subst, ⊎_elim, get_or-set_same, get_or-set_other, arith}
use Rattle.std.proofs.Math.ListN.{set as set_at}
use Rattle.std.proofs.lemmas.Bool.{cases_eq, eqb-false}
use Rattle.std.proofs.lemmas.List.{take_more, get_or_default}
use Rattle.std.proofs.lemmas.List.Elements.{All-cons, All-contains, All-head, All-nil, All-tail}
use Rattle.std.specs.List.Sorted.{IsPermutation}
use Rattle.mp_task.specs.Strips.{Operator}
use Rattle.mp_estimates.specs.Estimates.{Values, greater}
use Rattle.mp_relaxed.specs.Values.{greatest}
use Rattle.mp_relaxed.specs.Relaxed.{operator_at}
use Rattle.mp_estimates.specs.Lowering.{unknown, number_at, value_at, Key, key, HaveFallen, Waits}
use Rattle.mp_relaxed.specs.Search.{capped, AreFrom, AreSettled, IsServed, IsOpen, AtLeast, count_at, CountOpen, ServeAtZero, ServesBelow, AreLowered}
use Rattle.mp_relaxed.specs.Search.AtLeast.{nothing, one, more}
use Rattle.mp_relaxed.specs.Users.{times}
use Rattle.mp_relaxed.proofs.TimesLemmas.{times-append, times_same, times_other, times_contained}
use Rattle.mp_estimates.proofs.LoweringLemmas.{known-none, popped_quiet}
use Rattle.mp_relaxed.proofs.SearchLemmas.{greater-none, none_served, served_kept, served_popped}

-- at least so many

pub at_least_kept : (P Q : ℕ → Type 0) (xs : List ℕ) (n : ℕ) → ((x : ℕ) → P x → Q x) → AtLeast P xs n → AtLeast Q xs n
at_least_kept P Q _ _ f (nothing xs) = nothing xs
at_least_kept P Q _ _ f (one x xs n p h) = one x xs n (f x p) (at_least_kept P Q xs n f h)
at_least_kept P Q _ _ f (more x xs n h) = more x xs n (at_least_kept P Q xs n f h)

pub at_least_fewer : (P : ℕ → Type 0) (xs : List ℕ) (m n : ℕ) → m ≤ n → AtLeast P xs n → AtLeast P xs m
at_least_fewer P _ m _ le (nothing xs) = subst (AtLeast P xs) (let e : 0 ≡ m = omega arith in e) (nothing xs)
at_least_fewer P _ zero _ le (one x xs n p h) = nothing (x ∷ xs)
at_least_fewer P _ (suc m) _ le (one x xs n p h) =
    subst (AtLeast P (x ∷ xs)) (let e : m + 1 ≡ suc m = omega arith in e)
    (one x xs m p (at_least_fewer P xs m n (omega arith) h))
at_least_fewer P _ m _ le (more x xs n h) = more x xs m (at_least_fewer P xs m n le h)

pub at_least_all : (P : ℕ → Type 0) (xs : List ℕ) → ((x : ℕ) → P x) → AtLeast P xs (length xs)
at_least_all P [] f = nothing []
at_least_all P (x ∷ xs) f =
    subst (AtLeast P (x ∷ xs)) (let e : length xs + 1 ≡ length (x ∷ xs) = omega arith in e)
    (one x xs (length xs) (f x) (at_least_all P xs f))

pub at_least_but_one : (P Q : ℕ → Type 0) (x : ℕ) (xs : List ℕ) (n : ℕ) → ((y : ℕ) → (y ≡ x → ⊥) → P y → Q y) → AtLeast P xs n → AtLeast Q xs (n - times x xs)
at_least_but_one P Q x _ _ f (nothing xs) =
    subst (AtLeast Q xs) (let e : 0 ≡ 0 - times x xs = omega arith in e) (nothing xs)
at_least_but_one P Q x _ _ f (one y ys n p h) = by (eqb y x) refl (at_least_but_one P Q x ys n f h)
  where
    by : (b : Bool) → eqb y x ≡ b → AtLeast Q ys (n - times x ys) → AtLeast Q (y ∷ ys) ((n + 1) - cond b (times x ys + 1) (times x ys))
    by true e k =
        at_least_fewer Q (y ∷ ys) ((n + 1) - (times x ys + 1)) (n - times x ys) (omega arith)
        (more y ys (n - times x ys) k)
    by false e k =
        at_least_fewer Q (y ∷ ys) ((n + 1) - times x ys) ((n - times x ys) + 1) (omega arith)
        (one y ys (n - times x ys) (f y (eqb-false y x e) p) k)
at_least_but_one P Q x _ _ f (more y ys n h) = by (eqb y x) (at_least_but_one P Q x ys n f h)
  where
    by : (b : Bool) → AtLeast Q ys (n - times x ys) → AtLeast Q (y ∷ ys) (n - cond b (times x ys + 1) (times x ys))
    by true k =
        at_least_fewer Q (y ∷ ys) (n - (times x ys + 1)) (n - times x ys) (omega arith)
        (more y ys (n - times x ys) k)
    by false k = more y ys (n - times x ys) k

-- where at least one has no value, the greatest is none
pub at_least_none : (v : Values) (xs : List ℕ) (n : ℕ) → 1 ≤ n → AtLeast (λ x. v x ≡ None) xs n → greatest v xs ≡ None
at_least_none v _ _ le (nothing xs) = absurd (omega arith)
at_least_none v _ _ le (one x xs n p h) = ap (λ a. greater a (greatest v xs)) p
at_least_none v _ _ le (more x xs n h) =
    ap (greater (v x)) (at_least_none v xs n le h) ∙ greater-none (v x)

-- what is open

pub open_kept : (old : List ℕ) (before : List Key) (new : List ℕ) (after : List Key) (x : ℕ) → HaveFallen old before new after → IsOpen old before x → IsOpen new after x
open_kept old before new after x fallen is_open = λ still.
    let quiet = fallen.quiet x still in
    subst (λ n. unknown ≤ n) (sym quiet.0) (is_open quiet.1)

pub open_popped : (numbers : List ℕ) (queue rest : List Key) (cost x y : ℕ) → IsPermutation queue (key cost x ∷ rest) → (y ≡ x → number_at numbers y ≡ cost → ⊥) → IsOpen numbers queue y → IsOpen numbers rest y
open_popped numbers queue rest cost x y popped other is_open = λ still.
    is_open (popped_quiet numbers queue rest cost x y popped other still)

-- counts while operators are counted down

pub lowered_one : (old : List ℕ) (k value : ℕ) → k < length old → value ≡ count_at old k - 1 → AreLowered old (k ∷ []) (set_at old k value)
lowered_one old k value within is = λ j. ⊎_elim
    (λ e.
    let same : count_at (set_at old k value) j ≡ value = subst (λ i. count_at (set_at old k value) i ≡ value) (sym e) (get_or-set_same old k value 0 within) in
    let once : times j (k ∷ []) ≡ 1 = subst (λ i. times i (k ∷ []) ≡ 1) (sym e) (times_same k) in
    let at : count_at old k ≡ count_at old j = ap (count_at old) (sym e) in
    omega arith)
    (λ ne.
    let same : count_at (set_at old k value) j ≡ count_at old j = get_or-set_other old k j value 0 ne in
    let never = times_other j k ne in
    omega arith)
    (cases_eq j k)

pub times_more : (k : ℕ) (users : List ℕ) (i : ℕ) → i < length users → times k (take (i + 1) users) ≡ times k (take i users) + times k (get_or users i 0 ∷ [])
times_more k users i within =
    ap (times k) (take_more users i 0 within) ∙ times-append k (take i users) (get_or users i 0 ∷ [])

pub lowered_more : (first old users new : List ℕ) (i : ℕ) → i < length users → AreLowered first (take i users) old → AreLowered old (get_or users i 0 ∷ []) new → AreLowered first (take (i + 1) users) new
lowered_more first old users new i within so_far step = λ k.
    let before = so_far k in
    let now = step k in
    let sum = times_more k users i within in
    omega arith

-- operators that have been counted down to 0 have been served
abbrev pub ServedSoFar : List Operator → List ℕ → List ℕ → List Key → List ℕ → Type 0
ServedSoFar os users numbers queue counts =
    (k : ℕ) → 1 ≤ times k users → count_at counts k ≡ 0 → IsServed os numbers queue k

pub served_more : (os : List Operator) (users : List ℕ) (i : ℕ) (numbers : List ℕ) (queue : List Key) (counts new : List ℕ) (after : List Key) (fewer : List ℕ) → i < length users → HaveFallen numbers queue new after → AreLowered counts (get_or users i 0 ∷ []) fewer → (count_at fewer (get_or users i 0) ≡ 0 → IsServed os new after (get_or users i 0)) → ServedSoFar os (take i users) numbers queue counts → ServedSoFar os (take (i + 1) users) new after fewer
served_more os users i numbers queue counts new after fewer within fallen step now so_far = λ k named none. ⊎_elim
    (λ e. subst (IsServed os new after) (sym e) (now (subst (λ j. count_at fewer j ≡ 0) e none)))
    (λ ne.
    let sum = times_more k users i within in
    let never = times_other k (get_or users i 0) ne in
    let same = step k in
    served_kept os numbers queue new after k fallen (so_far k (omega arith) (omega arith)))
    (cases_eq k (get_or users i 0))

-- counts in the search

pub counts_begin : (os : List Operator) (numbers : List ℕ) (queue : List Key) (counts : List ℕ) → ((x : ℕ) → IsOpen numbers queue x) → ((k : ℕ) → count_at counts k ≤ length (operator_at os k).pre) → CountOpen os numbers queue counts
counts_begin os numbers queue counts is_open at_most = λ k within.
    at_least_fewer (IsOpen numbers queue) (operator_at os k).pre (count_at counts k) (length (operator_at os k).pre) (at_most k)
    (at_least_all (IsOpen numbers queue) (operator_at os k).pre is_open)

-- an entry that is out of date has gone
pub counts_stale : (os : List Operator) (numbers : List ℕ) (queue rest : List Key) (counts : List ℕ) (cost x : ℕ) → IsPermutation queue (key cost x ∷ rest) → (number_at numbers x ≡ cost → ⊥) → CountOpen os numbers queue counts → CountOpen os numbers rest counts
counts_stale os numbers queue rest counts cost x popped stale count = λ k within.
    at_least_kept (IsOpen numbers queue) (IsOpen numbers rest) (operator_at os k).pre (count_at counts k)
    (λ y is_open. open_popped numbers queue rest cost x y popped (λ e f. stale (sym (ap (number_at numbers) e) ∙ f)) is_open)
    (count k within)

module _ (os : List Operator) (numbers : List ℕ) (queue rest : List Key) (counts users new : List ℕ) (after : List Key) (fewer : List ℕ) (cost x : ℕ) (popped : IsPermutation queue (key cost x ∷ rest)) (fallen : HaveFallen numbers rest new after) (lowered : AreLowered counts users fewer) (has : (k : ℕ) → k < length os → times x (operator_at os k).pre ≡ times k users) where
  -- a fact has been settled, and its users have been counted down
  pub counts_settled : CountOpen os numbers queue counts → CountOpen os new after fewer
  counts_settled count = λ k within.
      let enough = has k within in
      let less = lowered k in
      at_least_fewer (IsOpen new after) (operator_at os k).pre (count_at fewer k) (count_at counts k - times x (operator_at os k).pre) (omega arith)
      (at_least_but_one (IsOpen numbers queue) (IsOpen new after) x (operator_at os k).pre (count_at counts k)
      (λ y ne is_open. open_kept numbers rest new after y fallen (open_popped numbers queue rest cost x y popped (λ e _. ne e) is_open))
      (count k within))

  -- those that have come to 0 have been served, and those that had do so still
  pub served_settled : ServedSoFar os users new after fewer → ServeAtZero os numbers queue counts → ServeAtZero os new after fewer
  served_settled now before = λ k within none. ⊎_elim
      (λ e.
      let less = lowered k in
      served_kept os numbers rest new after k fallen
      (served_popped os numbers queue rest cost x k popped
      (λ i d lt is _. absurd (let one_more = times_contained x (operator_at os k).pre (i, lt, other d (operator_at os k).pre i lt is) in let enough = has k within in omega arith))
      (before k within (omega arith))))
      (λ ne. now k (omega arith) none)
      (cases_eq (times k users) 0)
    where
      other : (d : ℕ) (xs : List ℕ) (i : ℕ) → i < length xs → get_or xs i d ≡ x → get_or xs i x ≡ x
      other d xs i lt is = get_or_default xs i x d lt ∙ is

-- where no fact waits, all operators are served
pub all_settled : (os : List Operator) (numbers : List ℕ) (queue : List Key) (counts : List ℕ) → length queue ≡ 0 → ServeAtZero os numbers queue counts → CountOpen os numbers queue counts → (k : ℕ) → k < length os → IsServed os numbers [] k
all_settled os numbers queue counts empty zeros count k within = ⊎_elim
    (λ e _. zeros k within e (λ i d lt waits. absurd (omega (arith, empty, waits.1))))
    (λ ne.
    none_served os numbers [] k
    (ap (λ a. capped (option_map (λ h. (operator_at os k).cost + h) a))
    (at_least_none (value_at numbers) (operator_at os k).pre (count_at counts k) (omega arith)
    (at_least_kept (IsOpen numbers queue) (λ x. value_at numbers x ≡ None) (operator_at os k).pre (count_at counts k)
    (λ x is_open. known-none (number_at numbers x) (is_open (λ waits. absurd (omega (arith, empty, waits.1)))))
    (count k within)))))
    (cases_eq (count_at counts k) 0)

-- at least so many are such and something else, where all are that
at_least_both : (P Q : ℕ → Type 0) (xs : List ℕ) (n : ℕ) → AtLeast P xs n → All Q xs → AtLeast (λ x. P x × Q x) xs n
at_least_both P Q _ _ (nothing xs) all = nothing xs
at_least_both P Q _ _ (one x xs n p h) all = one x xs n (p, All-head Q x xs all) (at_least_both P Q xs n h (All-tail Q x xs all))
at_least_both P Q _ _ (more x xs n h) all = more x xs n (at_least_both P Q xs n h (All-tail Q x xs all))

-- a fact whose number is less than all in the queue does not wait
calm_below : (numbers : List ℕ) (queue : List Key) (n x : ℕ) → AreFrom n queue → number_at numbers x < n → ¬ Waits numbers queue x
calm_below numbers queue n x from less waits =
    let there : n ≤ number_at numbers x = All-contains (λ (k : Key). n ≤ k.0) queue (key (number_at numbers x) x) from waits in
    absurd (omega arith)

-- operators whose preconditions have numbers less than all in the queue are served
pub serves_before : (os : List Operator) (numbers : List ℕ) (queue : List Key) (counts : List ℕ) (n : ℕ) → AreFrom n queue → ServeAtZero os numbers queue counts → CountOpen os numbers queue counts → ServesBelow os numbers n
serves_before os numbers queue counts n from zeros count k within low = ⊎_elim
    (λ e. zeros k within e (λ i d lt. calm_below numbers queue n _ from (low i d lt)))
    (λ ne.
    none_served os numbers queue k
    (ap (λ a. capped (option_map (λ h. (operator_at os k).cost + h) a))
    (at_least_none (value_at numbers) (operator_at os k).pre (count_at counts k) (omega arith)
    (at_least_kept (λ x. IsOpen numbers queue x × (number_at numbers x < n)) (λ x. value_at numbers x ≡ None) (operator_at os k).pre (count_at counts k)
    (λ x both. known-none (number_at numbers x) (both.0 (calm_below numbers queue n x from both.1)))
    (at_least_both (IsOpen numbers queue) (λ x. number_at numbers x < n) (operator_at os k).pre (count_at counts k) (count k within) low))))
    (λ i d lt. calm_below numbers queue n _ from (low i d lt)))
    (cases_eq (count_at counts k) 0)

-- where no fact waits, all of them are, and any facts are settled

pub serves_all : (os : List Operator) (numbers : List ℕ) (n : ℕ) → ((k : ℕ) → k < length os → IsServed os numbers [] k) → ServesBelow os numbers n
serves_all os numbers n served k within _ = served k within (λ i d lt waits. absurd (omega (arith, waits.1)))

bound_of : (numbers facts : List ℕ) → (b : ℕ) × All (λ x. number_at numbers x ≤ b) facts
bound_of numbers [] = (0, All-nil (λ x. number_at numbers x ≤ 0))
bound_of numbers (x ∷ facts) =
    let rest = bound_of numbers facts in (
      max (number_at numbers x) rest.0,
      All-cons (λ y. number_at numbers y ≤ max (number_at numbers x) rest.0) x facts (omega arith) (λ i d lt. let h = rest.1 i d lt in omega arith),
    )

pub settled_all : (os : List Operator) (numbers facts : List ℕ) → ((k : ℕ) → k < length os → IsServed os numbers [] k) → AreSettled os numbers facts
settled_all os numbers facts served =
    let b = bound_of numbers facts in
    record { bound = b.0; low = b.1; serves = serves_all os numbers b.0 served }
