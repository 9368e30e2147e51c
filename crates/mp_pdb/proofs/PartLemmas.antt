-- The parts of a mask, from the greatest binary number on: what follows a part is the greatest one below it.
use Rattle.std.proofs.Common.{◌≡◌, ℕ, zero, suc, ◌-◌, ◌*◌, ◌/◌, ◌%◌, ◌^◌, ◌<◌, ◌≤◌, min, sym, ap, ◌∙◌, ⊎_elim, arith}
use Rattle.std.proofs.Math.Nat.{pow-succ'}
use Rattle.std.proofs.lemmas.Bool.{cases_eq}
use Rattle.std.proofs.lemmas.Nat.{and_shr}
use Rattle.std.proofs.lemmas.Nat.Bits.{bit_at_and, bit_at_lowest}
use Rattle.std.specs.Prelude.{bit_and}

half : (a b : ℕ) → bit_and a b / 2 ≡ bit_and (a / 2) (b / 2)
half a b = and_shr a b 1

lowest : (a b : ℕ) → bit_and a b % 2 ≡ min (a % 2) (b % 2)
lowest a b =
    sym (bit_at_lowest (bit_and a b)) ∙ bit_at_and a b 0 ∙ (λ i. min (bit_at_lowest a i) (bit_at_lowest b i))

half_part : (f s : ℕ) → bit_and s f ≡ s → bit_and (s / 2) (f / 2) ≡ s / 2
half_part f s part = sym (half s f) ∙ ap (λ n. n / 2) part

pub greatest_below : (k f s t : ℕ) → s < 2 ^ k → bit_and s f ≡ s → bit_and t f ≡ t → t < s → t ≤ bit_and (s - 1) f
greatest_below zero f s t small s_part t_part less = absurd (omega arith)
greatest_below (suc k) f s t small s_part t_part less = ⊎_elim
    (λ even.
    let room : s / 2 < 2 ^ k = (let power : 2 ^ suc k ≡ 2 * 2 ^ k = pow-succ' 2 k in omega arith) in
    let rest = greatest_below k (f / 2) (s / 2) (t / 2) room (half_part f s s_part) (half_part f t t_part) (omega arith) in
    let before : (s - 1) / 2 ≡ s / 2 - 1 = omega arith in
    let odd : (s - 1) % 2 ≡ 1 = omega arith in
    let high : bit_and (s - 1) f / 2 ≡ bit_and (s / 2 - 1) (f / 2) = half (s - 1) f ∙ ap (λ n. bit_and n (f / 2)) before in
    let low : bit_and (s - 1) f % 2 ≡ min 1 (f % 2) = lowest (s - 1) f ∙ ap (λ n. min n (f % 2)) odd in
    let own : t % 2 ≡ min (t % 2) (f % 2) = sym (ap (λ n. n % 2) t_part) ∙ lowest t f in
    omega arith)
    (λ other.
    let odd : s % 2 ≡ 1 = omega arith in
    let same : (s - 1) / 2 ≡ s / 2 = omega arith in
    let high : bit_and (s - 1) f / 2 ≡ s / 2 = half (s - 1) f ∙ ap (λ n. bit_and n (f / 2)) same ∙ half_part f s s_part in
    omega arith)
    (cases_eq (s % 2) 0)
