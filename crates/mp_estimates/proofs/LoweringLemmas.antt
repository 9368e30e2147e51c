-- Numbers that are lowered, and the queue of the things that have them.
use Rattle.std.proofs.Common.{◌≡◌, ◌≢◌, ℕ, zero, suc, ◌+◌, ◌<◌, ◌≤◌, cond, Some, None, List, [], ◌∷◌, length, get_or, All, Contains, refl, sym, ap, ◌∙◌, subst, ⊎_elim, get_or-set_same, get_or-set_other, arith}
use Rattle.std.proofs.Math.ListN.{set as set_at}
use Rattle.std.proofs.lemmas.Bool.{cases_eq, lt-ltb, le-ltb, cases_lt}
use Rattle.std.proofs.lemmas.List.{length-set}
use Rattle.std.proofs.lemmas.List.Elements.{All-cons, All-head, All-tail, Contains-append_right, Contains-append_left, Contains-append_cases}
use Rattle.std.proofs.lemmas.List.Sums.{sum_by-set}
use Rattle.std.proofs.lemmas.List.Sorted.{All-permutation, Contains-permutation, length_permutation, sum_by_pushed}
use Rattle.std.specs.List.Sorted.{IsPermutation}
use Rattle.mp_estimates.specs.Estimates.{AtMost, Values}
use Rattle.mp_estimates.specs.Lowering.{unknown, known, number_at, Key, key, Waits, HaveFallen, IsProper, entries, AreBelow}
use Rattle.mp_estimates.proofs.ProperLemmas.{mark_of, mark_same, mark_other_fact, entries_none}

-- numbers that stand for costs

pub known-none : (n : ℕ) → unknown ≤ n → known n ≡ None
known-none n h = ap (λ b. cond b (Some n) None) (le-ltb n unknown h)

pub known-some : (n : ℕ) → n < unknown → known n ≡ Some n
known-some n h = ap (λ b. cond b (Some n) None) (lt-ltb n unknown h)

pub known-mono : (m n : ℕ) → m ≤ n → AtMost (known m) (known n)
known-mono m n le = ⊎_elim
    (λ h. subst (AtMost (known m)) (sym (known-some n h)) (subst (λ a. AtMost a (Some n)) (sym (known-some m (omega arith))) le))
    (λ h. subst (AtMost (known m)) (sym (known-none n h)) tt)
    (cases_lt n unknown)

-- numbers that fall

pub fallen_trans : (a : List ℕ) (p : List Key) (b : List ℕ) (q : List Key) (c : List ℕ) (r : List Key) → HaveFallen a p b q → HaveFallen b q c r → HaveFallen a p c r
fallen_trans a p b q c r h k = record {
  as_many = k.as_many ∙ h.as_many;
  lower = λ x. let one = h.lower x in let two = k.lower x in omega arith;
  quiet = λ x still.
      let two = k.quiet x still in
      let one = h.quiet x two.1 in
      (two.0 ∙ one.0, one.1);
  inside = λ all.
      subst (λ n. All (λ (e : Key). e.1 < n) r) h.as_many
      (k.inside (subst (λ n. All (λ (e : Key). e.1 < n) q) (sym h.as_many) (h.inside all)));
  lighter = let one = h.lighter in let two = k.lighter in omega arith;
  proper = λ all. k.proper (h.proper all);
}

-- a number has been lowered, and its thing waits

module _ (numbers : List ℕ) (queue after : List Key) (x cost : ℕ) (within : x < length numbers) (less : cost < number_at numbers x) (pushed : IsPermutation (key cost x ∷ queue) after) where
  same_at : number_at (set_at numbers x cost) x ≡ cost
  same_at = get_or-set_same numbers x cost unknown within

  other_at : (y : ℕ) → y ≢ x → number_at (set_at numbers x cost) y ≡ number_at numbers y
  other_at y ne = get_or-set_other numbers x y cost unknown ne

  lower_at : (y : ℕ) → number_at (set_at numbers x cost) y ≤ number_at numbers y
  lower_at y = ⊎_elim
      (λ e. subst (λ z. number_at (set_at numbers x cost) z ≤ number_at numbers z) (sym e) (let same = same_at in omega arith))
      (λ ne. let same = other_at y ne in omega arith)
      (cases_eq y x)

  new_waits : Waits (set_at numbers x cost) after x
  new_waits =
      subst (λ n. Contains after (key n x)) (sym same_at)
      (Contains-permutation (key cost x ∷ queue) after (key cost x) pushed (Contains-append_left (key cost x ∷ []) queue (key cost x) (0, (let h : 0 < 1 = omega arith in h), refl)))

  quiet_at : (y : ℕ) → ¬ Waits (set_at numbers x cost) after y → (number_at (set_at numbers x cost) y ≡ number_at numbers y) × ¬ Waits numbers queue y
  quiet_at y still = ⊎_elim
      (λ e. absurd (still (subst (Waits (set_at numbers x cost) after) (sym e) new_waits)))
      (λ ne. (
        other_at y ne,
        λ waits. still (subst (λ n. Contains after (key n y)) (sym (other_at y ne))
            (Contains-permutation (key cost x ∷ queue) after (key (number_at numbers y) y) pushed (Contains-append_right (key cost x ∷ []) queue (key (number_at numbers y) y) waits))),
      ))
      (cases_eq y x)

  proper_at : IsProper numbers queue → IsProper (set_at numbers x cost) after
  proper_at proper = record {
    current =
        All-permutation (λ (k : Key). number_at (set_at numbers x cost) k.1 ≤ k.0) (key cost x ∷ queue) after pushed
        (All-cons (λ (k : Key). number_at (set_at numbers x cost) k.1 ≤ k.0) (key cost x) queue (let same = same_at in omega arith)
        (λ i d lt.
        let before = proper.current i d lt in
        let fell = lower_at (get_or queue i d).1 in
        omega arith));
    once = λ y. ⊎_elim
        (λ e. subst (λ z. entries (number_at (set_at numbers x cost) z) z after ≤ 1) (sym e)
        (subst (λ n. entries n x after ≤ 1) (sym same_at)
        (let sum = sum_by_pushed (mark_of cost x) (key cost x) queue after pushed in
        let mark = mark_same cost x in
        let none = entries_none cost x queue (λ i d lt at. let before = proper.current i d lt in let same = ap (number_at numbers) at in omega arith) in
        omega arith)))
        (λ ne. subst (λ n. entries n y after ≤ 1) (sym (other_at y ne))
        (let sum = sum_by_pushed (mark_of (number_at numbers y) y) (key cost x) queue after pushed in
        let mark = mark_other_fact (number_at numbers y) y (key cost x) (λ e. ne (sym e)) in
        let one = proper.once y in
        omega arith))
        (cases_eq y x);
  }

  pub fallen_one : HaveFallen numbers queue (set_at numbers x cost) after
  fallen_one = record {
    as_many = length-set numbers x cost;
    lower = lower_at;
    quiet = quiet_at;
    inside = λ all. All-permutation (λ (e : Key). e.1 < length numbers) (key cost x ∷ queue) after pushed (All-cons (λ (e : Key). e.1 < length numbers) (key cost x) queue within all);
    lighter =
        let sums = sum_by-set (λ n. n) numbers x cost unknown within in
        let long : length after ≡ length (key cost x ∷ queue) = length_permutation (key cost x ∷ queue) after pushed in
        let more : length (key cost x ∷ queue) ≡ length queue + 1 = omega arith in
        omega arith;
    proper = proper_at;
  }

-- all stand for none

pub none_at : (numbers : List ℕ) → All (λ n. n ≡ unknown) numbers → (x : ℕ) → number_at numbers x ≡ unknown
none_at [] h x = refl
none_at (n ∷ numbers) h zero = All-head (λ n. n ≡ unknown) n numbers h
none_at (n ∷ numbers) h (suc x) = none_at numbers (All-tail (λ n. n ≡ unknown) n numbers h) x

pub all_below : (values : Values) (numbers : List ℕ) → All (λ n. n ≡ unknown) numbers → AreBelow values numbers
all_below values numbers none = λ x. subst (λ n. AtMost (values x) (known n)) (sym (none_at numbers none x)) tt

-- an entry has been taken out of the queue

pub popped_quiet : (numbers : List ℕ) (queue rest : List Key) (cost x y : ℕ) → IsPermutation queue (key cost x ∷ rest) → (y ≡ x → number_at numbers y ≡ cost → ⊥) → ¬ Waits numbers rest y → ¬ Waits numbers queue y
popped_quiet numbers queue rest cost x y popped other still waits = ⊎_elim
    (λ here. other (at_x here) (at_cost here))
    (λ later. still later)
    (Contains-append_cases (key cost x ∷ []) rest (key (number_at numbers y) y) (Contains-permutation queue (key cost x ∷ rest) (key (number_at numbers y) y) popped waits))
  where
    same : Contains (key cost x ∷ []) (key (number_at numbers y) y) → key cost x ≡ key (number_at numbers y) y
    same (zero, lt, e) = e
    same (suc k, lt, e) = absurd (omega arith)

    at_x : Contains (key cost x ∷ []) (key (number_at numbers y) y) → y ≡ x
    at_x h = sym (ap (λ (e : Key). e.1) (same h))

    at_cost : Contains (key cost x ∷ []) (key (number_at numbers y) y) → number_at numbers y ≡ cost
    at_cost h = sym (ap (λ (e : Key). e.0) (same h))
