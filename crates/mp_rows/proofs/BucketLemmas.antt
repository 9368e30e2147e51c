-- Buckets are below their number.
use Rattle.std.proofs.Common.{◌*◌, ◌/◌, ◌^◌, ◌<◌, ℕ, lit<, subst}
use Rattle.std.proofs.Math.Nat.{div-lt_iff_lt-mul, mul-lt-mul_of_pos_right, mul_comm}

pub bucket_small : (hash buckets : ℕ) → hash < 2 ^ 32 → 0 < buckets → (hash * buckets) / 2 ^ 32 < buckets
bucket_small hash buckets small some =
    (div-lt_iff_lt-mul {k = 2 ^ 32} {x = hash * buckets} {y = buckets} (lit< tt)).1
    (subst (λ (n : ℕ). hash * buckets < n) (mul_comm (2 ^ 32) buckets) (mul-lt-mul_of_pos_right {m = hash} {n = 2 ^ 32} {k = buckets} small some))
