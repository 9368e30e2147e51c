-- Entries of a queue: what they are, and how often each of them stands in it.
use Rattle.std.proofs.Common.{◌≡◌, ◌≢◌, ℕ, zero, suc, ◌<◌, ◌≤◌, Bool, true, false, cond, eqb, ◌&&◌, List, [], ◌∷◌, All, Contains, refl, sym, ap, ◌∙◌, subst, ⊎_elim, arith}
use Rattle.std.proofs.lemmas.Bool.{cases_eq, eq-eqb, ne_eqb}
use Rattle.std.proofs.lemmas.List.Elements.{All-nil, All-head, All-tail}
use Rattle.std.proofs.lemmas.List.Sums.{sum_by-cons}
use Rattle.std.proofs.lemmas.List.Sorted.{All-permutation, sum_by_popped}
use Rattle.std.specs.List.Sorted.{IsPermutation}
use Rattle.mp_estimates.specs.Lowering.{number_at, Key, key, Waits, IsProper, entries}

-- one for the entry that is counted
abbrev pub mark_of : ℕ → ℕ → Key → ℕ
mark_of n x k = cond (eqb k.0 n && eqb k.1 x) 1 0

and_false : (b : Bool) → (b && false) ≡ false
and_false true = refl
and_false false = refl

pub mark_same : (n x : ℕ) → mark_of n x (key n x) ≡ 1
mark_same n x = λ i. cond (eq-eqb n n refl i && eq-eqb x x refl i) 1 0

pub mark_other_fact : (n x : ℕ) (k : Key) → k.1 ≢ x → mark_of n x k ≡ 0
mark_other_fact n x k ne =
    ap (λ b. cond (eqb k.0 n && b) 1 0) (ne_eqb k.1 x ne) ∙ ap (λ b. cond b 1 0) (and_false (eqb k.0 n))

mark_other_number : (n x : ℕ) (k : Key) → k.0 ≢ n → mark_of n x k ≡ 0
mark_other_number n x k ne = ap (λ b. cond (b && eqb k.1 x) 1 0) (ne_eqb k.0 n ne)

pub entries_contained : (n x : ℕ) (queue : List Key) → Contains queue (key n x) → 1 ≤ entries n x queue
entries_contained n x [] h = absurd (omega (arith, h.1))
entries_contained n x (k ∷ queue) (zero, lt, e) =
    let more = sum_by-cons (mark_of n x) k queue in
    let one : mark_of n x k ≡ 1 = subst (λ (j : Key). mark_of n x j ≡ 1) (sym e) (mark_same n x) in
    omega arith
entries_contained n x (k ∷ queue) (suc i, lt, e) =
    let more = sum_by-cons (mark_of n x) k queue in
    let rest = entries_contained n x queue (i, omega arith, e) in
    omega arith

-- an entry below all those of its fact does not stand there
pub entries_none : (n x : ℕ) (queue : List Key) → All (λ (k : Key). k.1 ≡ x → n < k.0) queue → entries n x queue ≡ 0
entries_none n x [] h = refl
entries_none n x (k ∷ queue) h =
    let more = sum_by-cons (mark_of n x) k queue in
    let rest = entries_none n x queue (All-tail (λ (k : Key). k.1 ≡ x → n < k.0) k queue h) in
    let none : mark_of n x k ≡ 0 = ⊎_elim
    (λ e.
    let less = All-head (λ (k : Key). k.1 ≡ x → n < k.0) k queue h e in
    mark_other_number n x k (λ f. absurd (omega arith)))
    (λ ne. mark_other_fact n x k ne)
    (cases_eq k.1 x) in
    omega arith

pub none_proper : (numbers : List ℕ) → IsProper numbers []
none_proper numbers = record { current = All-nil (λ (k : Key). number_at numbers k.1 ≤ k.0); once = λ x. omega arith }

module _ (numbers : List ℕ) (queue rest : List Key) (cost x : ℕ) (popped : IsPermutation queue (key cost x ∷ rest)) (proper : IsProper numbers queue) where
  pub proper_popped : IsProper numbers rest
  proper_popped = record {
    current =
        All-tail (λ (k : Key). number_at numbers k.1 ≤ k.0) (key cost x) rest
        (All-permutation (λ (k : Key). number_at numbers k.1 ≤ k.0) queue (key cost x ∷ rest) popped proper.current);
    once = λ y.
        let sum = sum_by_popped (mark_of (number_at numbers y) y) (key cost x) queue rest popped in
        let one = proper.once y in
        omega arith;
  }

  -- a fact whose entry has been taken out does not wait any more
  pub waits_no_more : number_at numbers x ≡ cost → ¬ Waits numbers rest x
  waits_no_more is waits =
      let sum = sum_by_popped (mark_of cost x) (key cost x) queue rest popped in
      let one : entries cost x queue ≤ 1 = subst (λ n. entries n x queue ≤ 1) is (proper.once x) in
      let mark = mark_same cost x in
      let more = entries_contained cost x rest (subst (λ n. Contains rest (key n x)) is waits) in
      omega arith
