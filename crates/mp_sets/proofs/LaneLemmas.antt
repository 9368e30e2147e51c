-- Eight words at a time: what is left of all lanes together is 0 exactly where it is 0 in each of them.
use Rattle.std.proofs.Common.{◌≡◌, ℕ, zero, suc, ◌+◌, ◌%◌, ◌<◌, List, [], ◌∷◌, length, get_or, refl, sym, ap, ◌∙◌, arith}
use Rattle.std.proofs.lemmas.Nat.{le_or_l, le_or_r}
use Rattle.std.specs.Int.Bits.{xor_self}
use Rattle.std.proofs.lemmas.Nat.Bits.{bit_at-lt, bit_at-zero, bit_at_xor, same_from_bits}
use Rattle.std.proofs.lemmas.Simd.{length-zip2, get_or-zip2}
use Rattle.std.specs.Int.{bit_at}
use Rattle.std.specs.Prelude.{bit_or}
use Rattle.std.specs.Int.RustNames.{bit_xor}
use Rattle.std.specs.Simd.Lanes.{zip2, fold_l}

pub xor_zero : (a b : ℕ) → bit_xor a b ≡ 0 → a ≡ b
xor_zero a b none =
    same_from_bits a b (λ i.
    let bits : (bit_at a i + bit_at b i) % 2 ≡ 0 = sym (bit_at_xor a b i) ∙ ap (λ n. bit_at n i) none ∙ bit_at-zero i in
    omega (arith, bit_at-lt a i, bit_at-lt b i))

pub zero_xor : (a b : ℕ) → a ≡ b → bit_xor a b ≡ 0
zero_xor a b e = ap (bit_xor a) (sym e) ∙ xor_self a

abbrev pub any_bits : ℕ → List ℕ → ℕ
any_bits = fold_l (λ a x. bit_or a x)

first_or_later : (z : ℕ) (zs : List ℕ) → z ≡ 0 → ((k : ℕ) → get_or zs k 0 ≡ 0) → (k : ℕ) → get_or (z ∷ zs) k 0 ≡ 0
first_or_later z zs here later zero = here
first_or_later z zs here later (suc k) = later k

pub all_zero : (a : ℕ) (zs : List ℕ) → any_bits a zs ≡ 0 → (a ≡ 0) × ((k : ℕ) → get_or zs k 0 ≡ 0)
all_zero a [] none = (none, λ k. refl)
all_zero a (z ∷ zs) none =
    let later = all_zero (bit_or a z) zs none in
    (omega (arith, later.0, le_or_l a z), first_or_later z zs (omega (arith, later.0, le_or_r a z)) later.1)

pub zero_all : (zs : List ℕ) → ((k : ℕ) → k < length zs → get_or zs k 0 ≡ 0) → any_bits 0 zs ≡ 0
zero_all [] each = refl
zero_all (z ∷ zs) each =
    let e : bit_or 0 z ≡ 0 = ap (bit_or 0) (each 0 (omega arith)) in
    ap (λ a. any_bits a zs) e ∙ zero_all zs (λ k h. each (suc k) (omega arith))

module _ (f : ℕ → ℕ → ℕ) (us vs : List ℕ) (u_long : length us ≡ 8) (v_long : length vs ≡ 8) where
  pub lanes_zero : any_bits 0 (zip2 f us vs) ≡ 0 → (k : ℕ) → k < 8 → f (get_or us k 0) (get_or vs k 0) ≡ 0
  lanes_zero none k h = sym (get_or-zip2 f us vs k 0 0 0 (omega arith) (omega arith)) ∙ (all_zero 0 (zip2 f us vs) none).1 k

  pub zero_lanes : ((k : ℕ) → k < 8 → f (get_or us k 0) (get_or vs k 0) ≡ 0) → any_bits 0 (zip2 f us vs) ≡ 0
  zero_lanes each =
      zero_all (zip2 f us vs) (λ k h.
      let small : k < 8 = omega (arith, length-zip2 f us vs (u_long ∙ sym v_long)) in
      get_or-zip2 f us vs k 0 0 0 (omega arith) (omega arith) ∙ each k small)
