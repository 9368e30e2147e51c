-- The first bit of words that is set at or above a place.
use Rattle.std.proofs.Common.{◌≡◌, ℕ, ◌+◌, ◌-◌, ◌*◌, ◌/◌, ◌%◌, ◌^◌, ◌<◌, ◌≤◌, true, false, List, get_or, sym, ap, ◌∙◌, inl, inr, arith, eq-eqb, ne_eqb, w64}
use Rattle.std.proofs.lemmas.Bool.{cases_lt}
use Rattle.std.proofs.Math.Nat.{div-le_self}
use Rattle.std.proofs.lemmas.Nat.{shr-shr}
use Rattle.std.proofs.lemmas.Nat.Bits.{bit_at-trailing_zeros, bit_at-zero, bit_at_above}
use Rattle.std.specs.Int.{bit_at, trailing_zeros}
use Rattle.mp_sets.specs.Words.{has_bit, IsFirstFrom}
use Rattle.mp_sets.proofs.WordLemmas.{bit_of_word}

bit_at-shr : (w s i : ℕ) → bit_at (w / 2 ^ s) i ≡ bit_at w (s + i)
bit_at-shr w s i = ap (λ x. x % 2) (shr-shr w s i)

set_bit : (words : List ℕ) (k q : ℕ) → q / 64 ≡ k → bit_at (get_or words k 0) (q % 64) ≡ 1 → has_bit words q ≡ true
set_bit words k q row one = bit_of_word words k q row ∙ eq-eqb _ 1 one

clear_bit : (words : List ℕ) (k q : ℕ) → q / 64 ≡ k → bit_at (get_or words k 0) (q % 64) ≡ 0 → has_bit words q ≡ false
clear_bit words k q row none = bit_of_word words k q row ∙ ne_eqb _ 1 (λ e. omega arith)

-- nothing is set in a word that is 0
pub clear_word : (words : List ℕ) (k : ℕ) → get_or words k 0 ≡ 0 → (q : ℕ) → q / 64 ≡ k → has_bit words q ≡ false
clear_word words k none q row = clear_bit words k q row (ap (λ w. bit_at w (q % 64)) none ∙ bit_at-zero (q % 64))

-- nor in what is left of a word after a shift
pub clear_rest : (words : List ℕ) (from : ℕ) → get_or words (from / 64) 0 / 2 ^ (from % 64) ≡ 0 → (q : ℕ) → from ≤ q → q < 64 * (from / 64 + 1) → has_bit words q ≡ false
clear_rest words from none q above within =
    let place : from % 64 + (q - from) ≡ q % 64 = omega arith in
    clear_bit words (from / 64) q (omega arith)
    (ap (bit_at (get_or words (from / 64) 0)) (sym place)
    ∙ sym (bit_at-shr (get_or words (from / 64) 0) (from % 64) (q - from))
    ∙ ap (λ w. bit_at w (q - from)) none ∙ bit_at-zero (q - from))

-- the lowest bit of the first word, from a place in it on
pub first_in_rest : (words : List ℕ) (from : ℕ) → get_or words (from / 64) 0 < 2 ^ 64 → (get_or words (from / 64) 0 / 2 ^ (from % 64) ≡ 0 → ⊥) → IsFirstFrom words from (from + trailing_zeros w64 (get_or words (from / 64) 0 / 2 ^ (from % 64)))
first_in_rest words from fit some =
    let w : ℕ = get_or words (from / 64) 0 in
    let s : ℕ = from % 64 in
    let rest : ℕ = w / 2 ^ s in
    let z : ℕ = trailing_zeros w64 rest in
    let lowest = bit_at-trailing_zeros w64 rest (omega arith) (omega (arith, div-le_self w (2 ^ s))) in
    let one : bit_at w (s + z) ≡ 1 = sym (bit_at-shr w s z) ∙ lowest.1 in
    let inside : s + z < 64 = elim (cases_lt (s + z) 64) [ inl h ↦ h | inr h ↦ absurd (omega (arith, one, bit_at_above w 64 (s + z) fit h)) ] in
    let place : (from + z) % 64 ≡ s + z = omega arith in
    record {
      set = set_bit words (from / 64) (from + z) (omega arith) (ap (bit_at w) place ∙ one);
      above = omega arith;
      first = λ y above below.
          let back : y % 64 ≡ s + (y - from) = omega arith in
          clear_bit words (from / 64) y (omega arith) (ap (bit_at w) back ∙ sym (bit_at-shr w s (y - from)) ∙ lowest.2 (y - from) (omega arith));
    }

-- the lowest bit of a later word, where nothing is set before it
pub first_in_word : (words : List ℕ) (from k : ℕ) → from ≤ 64 * k → ((y : ℕ) → from ≤ y → y < 64 * k → has_bit words y ≡ false) → get_or words k 0 < 2 ^ 64 → (get_or words k 0 ≡ 0 → ⊥) → IsFirstFrom words from (64 * k + trailing_zeros w64 (get_or words k 0))
first_in_word words from k above none fit some =
    let w : ℕ = get_or words k 0 in
    let z : ℕ = trailing_zeros w64 w in
    let lowest = bit_at-trailing_zeros w64 w (omega arith) fit in
    let place : (64 * k + z) % 64 ≡ z = omega (arith, lowest.0) in
    record {
      set = set_bit words k (64 * k + z) (omega (arith, lowest.0)) (ap (bit_at w) place ∙ lowest.1);
      above = omega arith;
      first = λ y above below.
          elim (cases_lt y (64 * k)) [
            | inl before ↦ none y above before
            | inr here ↦ clear_bit words k y (omega (arith, lowest.0)) (lowest.2 (y % 64) (omega (arith, lowest.0)))
          ];
    }
