-- A number grows with its digits.
use Rattle.std.proofs.Common.{◌≡◌, refl, ap, ℕ, suc, ◌+◌, ◌-◌, ◌*◌, ◌<◌, ◌≤◌, [], ◌∷◌, length, drop, get_or, None, drop-cons, arith, false}
use Rattle.std.specs.Prelude.{nat_lt}
use Rattle.std.proofs.lemmas.Bool.{le-ltb}
use Rattle.mp_text.specs.Lines.{Text}
use Rattle.mp_plans.specs.Fields.{if_below, number_from}

grows : (number : ℕ) (digits : Text) → number ≤ number_from number digits
grows number [] = omega arith
grows number (digit ∷ digits) = let more = grows (number * 10 + (digit - 48)) digits in omega arith

-- a beginning that is too large makes the whole too large
pub too_large : (bound number at : ℕ) (digits : Text) → at < length digits
    → number_from number (drop at digits) ≡ number_from 0 digits
    → bound ≤ number * 10 + (get_or digits at 0 - 48)
    → None ≡ if_below bound (number_from 0 digits)
too_large bound number at digits within whole large =
    let cut : number_from number (drop at digits) ≡ number_from (number * 10 + (get_or digits at 0 - 48)) (drop (suc at) digits) =
    ap (number_from number) (drop-cons digits at 0 within) in
    let more = grows (number * 10 + (get_or digits at 0 - 48)) (drop (suc at) digits) in
    let total : bound ≤ number_from 0 digits = omega (arith, cut, whole, more) in
    let no : nat_lt (number_from 0 digits) bound ≡ false = le-ltb (number_from 0 digits) bound total in
    rw no refl
