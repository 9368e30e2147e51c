-- Fields of a line, read from left to right: a value and the bytes after it, or none.
use Rattle.std.specs.Prelude.{ℕ, ◌+◌, ◌-◌, ◌*◌, ◌^◌, ◌==◌, ◌||◌, Bool, false, not, nat_eq, nat_lt, [], ◌∷◌, length, take, drop, Option, Some, None, if◌then◌else◌}
use Rattle.std.specs.List.{ends_with, prefix_len, starts_with}
use Rattle.mp_forms.specs.Words.{is_digit}
use Rattle.mp_messages.specs.Reading.{◌>>=◌}
use Rattle.mp_text.specs.Lines.{Text}

-- what follows this beginning of a text
abbrev pub behind : Text → Text → Option Text
behind head text = if starts_with nat_eq text head then Some (drop (length head) text) else None

-- what stands before this ending of a text
abbrev pub before : Text → Text → Option Text
before ending text =
    if ends_with nat_eq text ending then Some (take (length text - length ending) text) else None

-- the number that digits spell behind others that spell a number
abbrev pub number_from : ℕ → Text → ℕ
number_from number [] = number
number_from number (digit ∷ digits) = number_from (number * 10 + (digit - 48)) digits

-- no bytes
abbrev pub is_nothing : Text → Bool
is_nothing text = length text == 0

-- digits without a leading zero: `0` stands alone
abbrev pub is_numeral : Text → Bool
is_numeral [] = false
is_numeral (first ∷ others) = not (first == 48) || is_nothing others

-- the digits of a number without leading zeros
unfoldable pub numeral_at : Text → Option (Text × Text)
numeral_at text =
    let count = prefix_len is_digit text in
    if is_numeral (take count text) then Some (take count text, drop count text) else None

-- a number, where it is below a bound
abbrev pub if_below : ℕ → ℕ → Option ℕ
if_below bound number = if nat_lt number bound then Some number else None

-- a number below 2^60
unfoldable pub number_at : Text → Option (ℕ × Text)
number_at text = do
  digits ← numeral_at text
  number ← if_below (2 ^ 60) (number_from 0 digits.0)
  Some (number, digits.1)
