-- The place of the first item that passes a test.
use Rattle.mp_lifted.proofs.Basics.{◌≡◌, ℕ, ◌<◌, Bool, true, false, not, cond, List, length, Some, None, refl, arith, position, position_or_len, cond_some}
use Rattle.std.proofs.Common.{ltb}
use Rattle.std.proofs.lemmas.Bool.{ltb-true, ltb-false}
use Rattle.std.proofs.lemmas.List.Sums.{prefix_len-le-length}

not_there : (b : Bool) (n : ℕ) → cond b (Some n) None ≡ None → b ≡ false
not_there true n e = absurd (cc)
not_there false n e = refl

-- there is one
pub found_at : {X : Type 0} (p : X → Bool) (xs : List X) (k : ℕ) → position p xs ≡ Some k → position_or_len p xs ≡ k
found_at p xs k is = (cond_some (ltb (position_or_len p xs) (length xs)) (position_or_len p xs) k is).1

pub found_within : {X : Type 0} (p : X → Bool) (xs : List X) (k : ℕ) → position p xs ≡ Some k → position_or_len p xs < length xs
found_within p xs k is = ltb-true (position_or_len p xs) (length xs) (cond_some (ltb (position_or_len p xs) (length xs)) (position_or_len p xs) k is).0

-- there is none
pub found_nowhere : {X : Type 0} (p : X → Bool) (xs : List X) → position p xs ≡ None → position_or_len p xs ≡ length xs
found_nowhere p xs is =
    let end = ltb-false (position_or_len p xs) (length xs) (not_there (ltb (position_or_len p xs) (length xs)) (position_or_len p xs) is) in
    omega (arith, end, prefix_len-le-length (λ x. not (p x)) xs)
