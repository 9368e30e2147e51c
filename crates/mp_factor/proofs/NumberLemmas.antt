-- Values of digits, as far as they are counted.
use Rattle.mp_factor.proofs.Basics.{◌≡◌, ℕ, ◌+◌, ◌-◌, ◌*◌, ◌<◌, List, [], ◌∷◌, length, get_or, drop, drop-cons, arith, min, value_behind}

bounded : (a b d : ℕ) → min a 1000001 ≡ min b 1000001 → min (a * 10 + d) 1000001 ≡ min (b * 10 + d) 1000001
bounded a b d e = omega (arith, e)

-- a value above the greatest cost stays above it
pub same_below : (a b : ℕ) (ds : List ℕ) → min a 1000001 ≡ min b 1000001 → min (value_behind a ds) 1000001 ≡ min (value_behind b ds) 1000001
same_below a b [] e = e
same_below a b (d ∷ ds) e = same_below (a * 10 + (d - 48)) (b * 10 + (d - 48)) ds (bounded a b (d - 48) e)

pub goes_on : (v v' whole : ℕ) (ds : List ℕ) (i : ℕ) → i < length ds
    → v' ≡ min (v * 10 + (get_or ds i 0 - 48)) 1000001
    → min (value_behind v (drop i ds)) 1000001 ≡ whole → min (value_behind v' (drop (i + 1) ds)) 1000001 ≡ whole
goes_on v v' whole ds i lt more so_far = grind (arith, drop-cons, same_below)
