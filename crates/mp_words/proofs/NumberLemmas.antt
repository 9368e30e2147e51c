-- How digits make a number, one after another.
use Rattle.std.proofs.Common.{◌≡◌, ℕ, ◌+◌, ◌-◌, ◌*◌, ◌^◌, ◌<◌, List, ◌∷◌, [], true, false, Some, None, refl, sym, arith, subst, add-one}
use Rattle.std.specs.Prelude.{nat_le}
use Rattle.std.proofs.lemmas.Bool.{and_parts, leb-true}
use Rattle.std.proofs.Math.Nat.{pow-suc}
use Rattle.mp_words.specs.Numbers.{is_digit, number_from}

-- a digit more
pub digit_more : (number digit : ℕ) (digits : List ℕ) → is_digit digit ≡ true → number_from number (digit ∷ digits) ≡ number_from (number * 10 + (digit - 48)) digits
unfolding number_from
digit_more number digit digits is = rw is refl

-- another byte
pub no_digit : (number digit : ℕ) (digits : List ℕ) → is_digit digit ≡ false → number_from number (digit ∷ digits) ≡ None
unfolding number_from
no_digit number digit digits is = rw is refl

pub no_more : (number : ℕ) → number_from number [] ≡ Some number
unfolding number_from
no_more number = refl

-- a number of so many digits stays one with a digit more
pub more_fits : (number digit places : ℕ) → is_digit digit ≡ true → number < 10 ^ places → number * 10 + (digit - 48) < 10 ^ (places + 1)
more_fits number digit places is small =
    let p = and_parts (nat_le 48 digit) (nat_le digit 57) is in
    let high = leb-true digit 57 p.1 in
    let e : 10 ^ (places + 1) ≡ 10 ^ places * 10 = rw (add-one) (pow-suc 10 places) in
    subst (λ n. number * 10 + (digit - 48) < n) (sym e) (omega arith)
