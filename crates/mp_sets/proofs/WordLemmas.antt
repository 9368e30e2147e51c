-- Bits of words: what setting or clearing one leaves, and that packed words of one set are one list.
use Rattle.std.proofs.Common.{◌≡◌, ℕ, ◌+◌, ◌-◌, ◌*◌, ◌/◌, ◌%◌, ◌^◌, ◌<◌, ◌≤◌, min, Bool, true, false, not, ◌&&◌, ◌||◌, eqb, List, length, get_or, refl, sym, ap, ◌∙◌, inl, inr, arith, eq-eqb, ne_eqb, eqb-true, w64}
use Rattle.std.proofs.Math.ListN.{set as set_at, replicate}
use Rattle.std.proofs.lemmas.List.{get_or-set_same, get_or-set_other, length-set, get_or-replicate, get_or_past, length-replicate}
use Rattle.std.proofs.lemmas.Bool.{cases_eq, cases_lt, le-ltb}
use Rattle.std.proofs.lemmas.Nat.Bits.{bit_at_set_same, bit_at_set_other, bit_at_clear_same, bit_at_clear_other, bit_at-zero, bit_at-lt, bit_at_and, bit_at_not, same_from_bits_below}
use Rattle.std.proofs.lemmas.Nat.{and_le_l}
use Rattle.std.specs.Prelude.{bit_and, bit_or}
use Rattle.std.specs.Int.{bit_at, bit_not}
use Rattle.std.specs.FinSet as set
use Rattle.std.specs.Cmp.{nat_cmp_total, both_ways}
use Rattle.mp_sets.specs.Numbers.{Numbers, SizedSet, numbers_below}
use Rattle.mp_sets.specs.Words.{has_bit, words_for, ArePacked}
use Rattle.mp_sets.proofs.SetLemmas.{contains_at, contains-numbers_below, numbers_below-same}

-- the words with one bit set, and with one bit cleared
abbrev pub with_bit : List ℕ → ℕ → ℕ → List ℕ
with_bit words x word = set_at words (x / 64) (bit_or word (1 * 2 ^ (x % 64) % 2 ^ 64))

abbrev pub without_bit : List ℕ → ℕ → ℕ → List ℕ
without_bit words x word = set_at words (x / 64) (bit_and word (bit_not w64 (1 * 2 ^ (x % 64) % 2 ^ 64)))

module _ (words : List ℕ) (x v : ℕ) (inside : x / 64 < length words) where
  -- what a new word at the place of x has at each number
  new_word : (f : ℕ → Bool) → ((i : ℕ) → i < 64 → eqb (bit_at v i) 1 ≡ f (64 * (x / 64) + i)) → ((q : ℕ) → (q / 64 ≡ x / 64 → ⊥) → has_bit words q ≡ f q) → (q : ℕ) → has_bit (set_at words (x / 64) v) q ≡ f q
  unfolding has_bit
  new_word f here there q =
      elim (cases_eq (q / 64) (x / 64)) [
        | inl row ↦
            ap (λ k. eqb (bit_at (get_or (set_at words (x / 64) v) k 0) (q % 64)) 1) row
            ∙ ap (λ w. eqb (bit_at w (q % 64)) 1) (get_or-set_same words (x / 64) v 0 inside)
            ∙ here (q % 64) (omega arith)
            ∙ (let e : 64 * (x / 64) + q % 64 ≡ q = omega arith in ap f e)
        | inr apart ↦
            ap (λ w. eqb (bit_at w (q % 64)) 1) (get_or-set_other words (x / 64) (q / 64) v 0 apart)
            ∙ there q apart
      ]

pub has_bit-with_bit : (words : List ℕ) (x : ℕ) → x / 64 < length words → (word : ℕ) → word ≡ get_or words (x / 64) 0 → (q : ℕ) → has_bit (with_bit words x word) q ≡ (eqb q x || has_bit words q)
unfolding has_bit
has_bit-with_bit words x inside word read q =
    new_word words x _ inside (λ k. eqb k x || has_bit words k)
    (λ i small.
    let place : (64 * (x / 64) + i) / 64 ≡ x / 64 = omega arith in
    let bit : (64 * (x / 64) + i) % 64 ≡ i = omega arith in
    let old : has_bit words (64 * (x / 64) + i) ≡ eqb (bit_at word i) 1 = rw (place, bit, read) refl in
    elim (cases_eq i (x % 64)) [
      | inl same ↦
          let e : 64 * (x / 64) + i ≡ x = omega arith in
          ap (λ k. eqb k 1) (ap (bit_at _) same ∙ bit_at_set_same w64 word (x % 64) (omega arith))
          ∙ sym (ap (λ b. b || has_bit words (64 * (x / 64) + i)) (eq-eqb _ x e))
      | inr other ↦
          ap (λ k. eqb k 1) (bit_at_set_other w64 word (x % 64) (omega arith) i other)
          ∙ sym old
          ∙ sym (ap (λ b. b || has_bit words (64 * (x / 64) + i)) (ne_eqb _ x (λ e. other (omega arith))))
    ])
    (λ k apart. sym (ap (λ b. b || has_bit words k) (ne_eqb k x (λ e. apart (ap (λ n. n / 64) e)))))
    q

pub has_bit-without_bit : (words : List ℕ) (x : ℕ) → x / 64 < length words → (word : ℕ) → word ≡ get_or words (x / 64) 0 → (q : ℕ) → has_bit (without_bit words x word) q ≡ (not (eqb q x) && has_bit words q)
unfolding has_bit
has_bit-without_bit words x inside word read q =
    new_word words x _ inside (λ k. not (eqb k x) && has_bit words k)
    (λ i small.
    let place : (64 * (x / 64) + i) / 64 ≡ x / 64 = omega arith in
    let bit : (64 * (x / 64) + i) % 64 ≡ i = omega arith in
    let old : has_bit words (64 * (x / 64) + i) ≡ eqb (bit_at word i) 1 = rw (place, bit, read) refl in
    elim (cases_eq i (x % 64)) [
      | inl same ↦
          let e : 64 * (x / 64) + i ≡ x = omega arith in
          ap (λ k. eqb k 1) (ap (bit_at _) same ∙ bit_at_clear_same w64 word (x % 64) (omega arith))
          ∙ sym (ap (λ b. not b && has_bit words (64 * (x / 64) + i)) (eq-eqb _ x e))
      | inr other ↦
          ap (λ k. eqb k 1) (bit_at_clear_other w64 word (x % 64) (omega arith) i small other)
          ∙ sym old
          ∙ sym (ap (λ b. not b && has_bit words (64 * (x / 64) + i)) (ne_eqb _ x (λ e. other (omega arith))))
    ])
    (λ k apart. sym (ap (λ b. not b && has_bit words k) (ne_eqb k x (λ e. apart (ap (λ n. n / 64) e)))))
    q

-- words stay packed where a bit below the size changes
pub ArePacked-with_bit : (size : ℕ) (words : List ℕ) (x : ℕ) → ArePacked size words → x < size → (word : ℕ) → word ≡ get_or words (x / 64) 0 → ArePacked size (with_bit words x word)
ArePacked-with_bit size words x packed h word read = record {
  long = length-set words (x / 64) _ ∙ packed.long;
  clear = λ q above. has_bit-with_bit words x (omega (arith, packed.long)) word read q ∙ ap (λ b. b || has_bit words q) (ne_eqb q x (omega arith)) ∙ packed.clear q above;
}

and_false : (b : Bool) → (b && false) ≡ false
and_false true = refl
and_false false = refl

pub ArePacked-without_bit : (size : ℕ) (words : List ℕ) (x : ℕ) → ArePacked size words → x < size → (word : ℕ) → word ≡ get_or words (x / 64) 0 → ArePacked size (without_bit words x word)
ArePacked-without_bit size words x packed h word read = record {
  long = length-set words (x / 64) _ ∙ packed.long;
  clear = λ q above. has_bit-without_bit words x (omega (arith, packed.long)) word read q ∙ ap (λ b. not (eqb q x) && b) (packed.clear q above) ∙ and_false _;
}

-- words of zeros
pub has_bit-zeros : (n q : ℕ) → has_bit (replicate n 0) q ≡ false
unfolding has_bit
has_bit-zeros n q =
    let none : get_or (replicate n 0) (q / 64) 0 ≡ 0 =
    elim (cases_lt (q / 64) n) [
      | inl h ↦ get_or-replicate n (q / 64) 0 0 h
      | inr h ↦ get_or_past (replicate n 0) (q / 64) 0 (omega (arith, length-replicate {A = ℕ} n 0))
    ] in
    ap (λ w. eqb (bit_at w (q % 64)) 1) none ∙ ap (λ k. eqb k 1) (bit_at-zero (q % 64))

pub ArePacked-zeros : (size : ℕ) → ArePacked size (replicate (words_for size) 0)
ArePacked-zeros size = record {
  long = length-replicate {A = ℕ} (words_for size) 0;
  clear = λ q above. has_bit-zeros _ q;
}

-- the set that words stand for
abbrev pub sized : ℕ → List ℕ → SizedSet
sized n words = record { size = n; members = numbers_below n (has_bit words) }

same_tests : (a b : ℕ) → a < 2 → b < 2 → eqb a 1 ≡ eqb b 1 → a ≡ b
same_tests a b p q e = elim (cases_eq a 1) [
  | inl one ↦ one ∙ sym (eqb-true b 1 (sym e ∙ eq-eqb a 1 one))
  | inr other ↦ elim (cases_eq b 1) [
    | inl one ↦ absurd (other (eqb-true a 1 (e ∙ eq-eqb b 1 one)))
    | inr both ↦ omega arith
  ]
]

-- bit i of word k
pub has_bit-at : (words : List ℕ) (k i : ℕ) → i < 64 → has_bit words (64 * k + i) ≡ eqb (bit_at (get_or words k 0) i) 1
unfolding has_bit
has_bit-at words k i small =
    let place : (64 * k + i) / 64 ≡ k = omega arith in
    let bit : (64 * k + i) % 64 ≡ i = omega arith in
    rw (place, bit) refl

pub bit_of_word : (words : List ℕ) (k q : ℕ) → q / 64 ≡ k → has_bit words q ≡ eqb (bit_at (get_or words k 0) (q % 64)) 1
unfolding has_bit
bit_of_word words k q e = ap (λ n. eqb (bit_at (get_or words n 0) (q % 64)) 1) e

-- one word of two lists: the words are equal where their bits are
module _ (xs ys : List ℕ) (k : ℕ) where
  pub same_word_bits : get_or xs k 0 ≡ get_or ys k 0 → (q : ℕ) → q / 64 ≡ k → has_bit xs q ≡ has_bit ys q
  same_word_bits same q e = bit_of_word xs k q e ∙ ap (λ w. eqb (bit_at w (q % 64)) 1) same ∙ sym (bit_of_word ys k q e)

  pub same_word : get_or xs k 0 < 2 ^ 64 → get_or ys k 0 < 2 ^ 64 → ((q : ℕ) → q / 64 ≡ k → has_bit xs q ≡ has_bit ys q) → get_or xs k 0 ≡ get_or ys k 0
  same_word x_fits y_fits same =
      same_from_bits_below 64 (get_or xs k 0) (get_or ys k 0) x_fits y_fits (λ i small.
      same_tests _ _ (bit_at-lt (get_or xs k 0) i) (bit_at-lt (get_or ys k 0) i)
      (sym (has_bit-at xs k i small) ∙ same (64 * k + i) (omega arith) ∙ has_bit-at ys k i small))

  -- no bit of the one word is left where those of the other are cleared
  pub word_within : get_or ys k 0 < 2 ^ 64 → bit_and (get_or xs k 0) (bit_not w64 (get_or ys k 0)) ≡ 0 → (q : ℕ) → q / 64 ≡ k → has_bit xs q ≡ true → has_bit ys q ≡ true
  word_within y_fits none q e here =
      let i : ℕ = q % 64 in
      let x : bit_at (get_or xs k 0) i ≡ 1 = eqb-true _ 1 (sym (bit_of_word xs k q e) ∙ here) in
      let both : min (bit_at (get_or xs k 0) i) (1 - bit_at (get_or ys k 0) i) ≡ 0 =
      ap (min (bit_at (get_or xs k 0) i)) (sym (bit_at_not w64 (get_or ys k 0) i y_fits (omega arith)))
      ∙ sym (bit_at_and (get_or xs k 0) (bit_not w64 (get_or ys k 0)) i) ∙ ap (λ w. bit_at w i) none ∙ bit_at-zero i in
      bit_of_word ys k q e ∙ eq-eqb _ 1 (omega (arith, bit_at-lt (get_or ys k 0) i))

  pub within_word : get_or xs k 0 < 2 ^ 64 → get_or ys k 0 < 2 ^ 64 → ((q : ℕ) → q / 64 ≡ k → has_bit xs q ≡ true → has_bit ys q ≡ true) → bit_and (get_or xs k 0) (bit_not w64 (get_or ys k 0)) ≡ 0
  within_word x_fits y_fits within =
      same_from_bits_below 64 _ 0 (omega (arith, and_le_l (get_or xs k 0) (bit_not w64 (get_or ys k 0)))) (omega arith) (λ i small.
      bit_at_and (get_or xs k 0) (bit_not w64 (get_or ys k 0)) i
      ∙ ap (min (bit_at (get_or xs k 0) i)) (bit_at_not w64 (get_or ys k 0) i y_fits small)
      ∙ (elim (cases_eq (bit_at (get_or xs k 0) i) 1) [
        | inl one ↦
            let there : bit_at (get_or ys k 0) i ≡ 1 = eqb-true _ 1 (sym (has_bit-at ys k i small) ∙ within (64 * k + i) (omega arith) (has_bit-at xs k i small ∙ eq-eqb _ 1 one)) in
            omega arith
        | inr other ↦ omega (arith, bit_at-lt (get_or xs k 0) i)
      ])
      ∙ sym (bit_at-zero i))

-- past the end of a list there are no bits
pub has_bit-past : (words : List ℕ) (q : ℕ) → 64 * length words ≤ q → has_bit words q ≡ false
unfolding has_bit
has_bit-past words q past =
    ap (λ w. eqb (bit_at w (q % 64)) 1) (get_or_past words (q / 64) 0 (omega arith)) ∙ ap (λ k. eqb k 1) (bit_at-zero (q % 64))

-- packed words of one size stand for the same set exactly where they have the same bits
pub same_bits-sized : (m n : ℕ) (xs ys : List ℕ) → m ≡ n → ((q : ℕ) → has_bit xs q ≡ has_bit ys q) → sized m xs ≡ sized n ys
same_bits-sized m n xs ys sizes same = λ i. record { size = sizes i; members = (ap (λ k. numbers_below k (has_bit xs)) sizes ∙ numbers_below-same n (has_bit xs) (has_bit ys) (λ k h. same k)) i }

pub sized-same_bits : (m n : ℕ) (xs ys : List ℕ) → ArePacked m xs → ArePacked n ys → sized m xs ≡ sized n ys → (q : ℕ) → has_bit xs q ≡ has_bit ys q
sized-same_bits m n xs ys xs_packed ys_packed same q =
    let sizes : m ≡ n = ap (λ s. s.size) same in
    elim (cases_lt q m) [
      | inl h ↦ sym (contains_at m (has_bit xs) q h) ∙ ap (λ s. set.contains s.members q) same ∙ contains_at n (has_bit ys) q (omega arith)
      | inr h ↦ xs_packed.clear q h ∙ sym (ys_packed.clear q (omega arith))
    ]

-- what packed words stand for has exactly their bits
pub contains-packed : (n : ℕ) (words : List ℕ) → ArePacked n words → (q : ℕ) → set.contains (numbers_below n (has_bit words)) q ≡ has_bit words q
contains-packed n words packed q =
    elim (cases_lt q n) [
      | inl h ↦ contains_at n (has_bit words) q h
      | inr h ↦ contains-numbers_below n (has_bit words) q ∙ ap (λ b. b && has_bit words q) (le-ltb q n h) ∙ sym (packed.clear q h)
    ]

pub within-is_subset : (m n : ℕ) (xs ys : List ℕ) (r : Bool) → ArePacked m xs → ArePacked n ys → (r ≡ true → (q : ℕ) → has_bit xs q ≡ true → has_bit ys q ≡ true) × (((q : ℕ) → has_bit xs q ≡ true → has_bit ys q ≡ true) → r ≡ true) → r ≡ set.is_subset (sized m xs).members (sized n ys).members
within-is_subset m n xs ys r xs_packed ys_packed tells =
    let s : Numbers = (sized m xs).members in
    let t : Numbers = (sized n ys).members in
    both_ways r (set.is_subset s t)
    (λ yes. set.contains-is_subset nat_cmp_total s t (λ q here. contains-packed n ys ys_packed q ∙ tells.0 yes q (sym (contains-packed m xs xs_packed q) ∙ here)))
    (λ all. tells.1 (λ q here. sym (contains-packed n ys ys_packed q) ∙ set.is_subset-contains nat_cmp_total s t all q (contains-packed m xs xs_packed q ∙ here)))
