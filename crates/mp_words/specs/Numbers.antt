-- Numbers of the command line: one to eight digits.
use Rattle.std.specs.Prelude.{ℕ, ◌+◌, ◌*◌, ◌-◌, ◌&&◌, nat_le, Bool, List, [], ◌∷◌, length, Option, Some, None, option_and_then, if◌then◌else◌}

abbrev pub is_digit : ℕ → Bool
is_digit byte = nat_le 48 byte && nat_le byte 57

-- the number that digits spell behind others that spell a number; none where one is no digit
unfoldable pub number_from : ℕ → List ℕ → Option ℕ
number_from number [] = Some number
number_from number (digit ∷ digits) =
    if is_digit digit then number_from (number * 10 + (digit - 48)) digits else None

-- the number that a word of one to eight digits spells
abbrev pub number_of : List ℕ → Option ℕ
number_of word = if nat_le 1 (length word) && nat_le (length word) 8 then number_from 0 word else None

abbrev pub if_between : ℕ → ℕ → ℕ → Option ℕ
if_between least most number = if nat_le least number && nat_le number most then Some number else None

-- the same where it lies between two others; none else
abbrev pub number_between : ℕ → ℕ → List ℕ → Option ℕ
number_between least most word = option_and_then (if_between least most) (number_of word)
