-- Words as the digits of a number in base 2 ^ 64, the least first.
use Rattle.std.proofs.Common.{◌≡◌, ℕ, zero, suc, ◌+◌, ◌-◌, ◌*◌, ◌/◌, ◌%◌, ◌^◌, ◌<◌, List, [], ◌∷◌, length, get_or, eqb, refl, sym, ap, ◌∙◌, inl, inr, arith, ext_get_or, ne_eqb, cond, Ordering, Less, Equal, Greater}
use Rattle.std.proofs.lemmas.Nat.Bits.{bit_at-zero, bit_at_cat_low, bit_at_cat_high}
use Rattle.std.proofs.lemmas.Bool.{cases_lt, cases_eq, lt-ltb, le-ltb}
use Rattle.std.specs.Cmp.{nat_cmp_total, tied_itself}
use Rattle.std.specs.Int.{bit_at}
use Rattle.std.specs.Ordering.{nat_cmp}
use Rattle.std.specs.Simd.Lanes.{number_l, digits_l}

abbrev base : ℕ
base = 2 ^ 64

-- bit q of the number is bit q % 64 of digit q / 64
pub bit_at-number_l : (xs : List ℕ) (q : ℕ) → ((k : ℕ) → get_or xs k 0 < base) → bit_at (number_l base xs) q ≡ bit_at (get_or xs (q / 64) 0) (q % 64)
bit_at-number_l [] q fit = bit_at-zero q ∙ sym (bit_at-zero (q % 64))
bit_at-number_l (x ∷ xs) q fit =
    let n : ℕ = number_l base xs in
    let whole : x + base * n ≡ n * 2 ^ 64 + x = omega arith in
    ap (λ m. bit_at m q) whole
    ∙ (elim (cases_lt q 64) [
      | inl low ↦
          let word : q / 64 ≡ 0 = omega arith in
          let bit : q % 64 ≡ q = omega arith in
          bit_at_cat_low n 64 x q low ∙ sym (ap (λ k. bit_at (get_or (x ∷ xs) k 0) (q % 64)) word ∙ ap (bit_at x) bit)
      | inr high ↦
          let word : q / 64 ≡ suc ((q - 64) / 64) = omega arith in
          let bit : q % 64 ≡ (q - 64) % 64 = omega arith in
          bit_at_cat_high n 64 x q (fit 0) high
          ∙ bit_at-number_l xs (q - 64) (λ k. fit (suc k))
          ∙ sym (ap (λ k. bit_at (get_or (x ∷ xs) k 0) (q % 64)) word ∙ ap (bit_at (get_or xs ((q - 64) / 64) 0)) bit)
    ])

-- the digits of the number are the words
pub digits_l-number_l : (xs : List ℕ) → ((k : ℕ) → get_or xs k 0 < base) → digits_l base (length xs) (number_l base xs) ≡ xs
digits_l-number_l [] fit = refl
digits_l-number_l (x ∷ xs) fit =
    let n : ℕ = number_l base xs in
    let small : x < base = fit 0 in
    let first : (x + base * n) % base ≡ x = omega arith in
    let rest : (x + base * n) / base ≡ n = omega arith in
    λ i. first i ∷ (ap (digits_l base (length xs)) rest ∙ digits_l-number_l xs (λ k. fit (suc k))) i

-- the last digit that differs tells which number is less
pub number_l-less : (xs ys : List ℕ) (at : ℕ) → length xs ≡ length ys → ((k : ℕ) → get_or xs k 0 < base) → ((k : ℕ) → at < k → get_or xs k 0 ≡ get_or ys k 0) → get_or xs at 0 < get_or ys at 0 → number_l base xs < number_l base ys
number_l-less xs [] at long xs_fit same less = absurd (omega arith)
number_l-less [] (y ∷ ys) at long xs_fit same less = absurd (omega arith)
number_l-less (x ∷ xs) (y ∷ ys) zero long xs_fit same less =
    let rest : number_l base xs ≡ number_l base ys = ap (number_l base) (ext_get_or 0 xs ys (omega arith) (λ k h. same (suc k) (omega arith))) in
    omega arith
number_l-less (x ∷ xs) (y ∷ ys) (suc at) long xs_fit same less =
    let rest : number_l base xs < number_l base ys = number_l-less xs ys at (omega arith) (λ k. xs_fit (suc k)) (λ k h. same (suc k) (omega arith)) less in
    let small : x < base = xs_fit 0 in
    omega arith

-- comparing from the last digit on
pub nat_cmp-less : (x y : ℕ) → x < y → nat_cmp x y ≡ Less
nat_cmp-less x y h = ap (λ b. cond b Less (cond (eqb x y) Equal Greater)) (lt-ltb x y h)

pub nat_cmp-greater : (x y : ℕ) → y < x → nat_cmp x y ≡ Greater
nat_cmp-greater x y h =
    ap (λ b. cond b Less (cond (eqb x y) Equal Greater)) (le-ltb x y (omega arith)) ∙ ap (λ b. cond b Equal Greater) (ne_eqb x y (λ e. omega arith))

pub nat_cmp-itself : (x : ℕ) → nat_cmp x x ≡ Equal
nat_cmp-itself x = tied_itself nat_cmp_total x

pub number_l-cmp : (xs ys : List ℕ) (at : ℕ) (r : Ordering) → length xs ≡ length ys → ((k : ℕ) → get_or xs k 0 < base) → ((k : ℕ) → get_or ys k 0 < base) → ((k : ℕ) → at < k → get_or xs k 0 ≡ get_or ys k 0) → (get_or xs at 0 ≡ get_or ys at 0 → ⊥) → r ≡ nat_cmp (get_or xs at 0) (get_or ys at 0) → r ≡ nat_cmp (number_l base xs) (number_l base ys)
number_l-cmp xs ys at r long xs_fit ys_fit same other is =
    elim (cases_lt (get_or xs at 0) (get_or ys at 0)) [
      | inl less ↦ is ∙ nat_cmp-less _ _ less ∙ sym (nat_cmp-less _ _ (number_l-less xs ys at long xs_fit same less))
      | inr more ↦
          let greater : get_or ys at 0 < get_or xs at 0 = elim (cases_eq (get_or xs at 0) (get_or ys at 0)) [ inl e ↦ absurd (other e) | inr ne ↦ omega arith ] in
          is ∙ nat_cmp-greater _ _ greater ∙ sym (nat_cmp-greater _ _ (number_l-less ys xs at (sym long) ys_fit (λ k h. sym (same k h)) greater))
    ]
