-- Numbers and costs.
use Rattle.std.specs.Prelude.{ℕ, ◌==◌, ◌&&◌, ◌||◌, ◌+◌, ◌-◌, ◌*◌, nat_le, not, min, Bool, List, [], ◌∷◌, Option, Some, None, length, take, drop, position, if◌then◌else◌, codes}
use Rattle.std.specs.List.{list_all}
use Rattle.mp_forms.specs.Words.{is_digit}

abbrev pub greatest_cost : ℕ
greatest_cost = 1000000

abbrev pub front_of : List ℕ → Option ℕ → List ℕ
front_of w None = w
front_of w (Some point) = take point w

abbrev pub back_of : List ℕ → Option ℕ → List ℕ
back_of w None = codes "0"
back_of w (Some point) = drop (point + 1) w

-- what stands before the first point
unfoldable pub whole_part : List ℕ → List ℕ
whole_part w = front_of w (position (λ b. b == 46) w)

-- what stands behind the first point; without a point a zero
unfoldable pub decimals : List ℕ → List ℕ
decimals w = back_of w (position (λ b. b == 46) w)

-- one or more digits
abbrev pub is_digits : List ℕ → Bool
is_digits bytes = not (length bytes == 0) && list_all is_digit bytes

-- digits, or digits, a point and digits
unfoldable pub is_number : List ℕ → Bool
is_number w = is_digits (whole_part w) && is_digits (decimals w)

-- the value of digits, behind others of this value
abbrev pub value_behind : ℕ → List ℕ → ℕ
value_behind v [] = v
value_behind v (d ∷ ds) = value_behind (v * 10 + (d - 48)) ds

-- the value of digits in tens
abbrev pub value_of : List ℕ → ℕ
value_of digits = value_behind 0 digits

-- that value, or one more than the greatest cost where it is above
unfoldable pub least_of_whole : List ℕ → ℕ
least_of_whole digits = min (value_of digits) (greatest_cost + 1)

-- the cost that a number is: none where it has decimals other than zeros, or is above the greatest cost
unfoldable pub cost_of : List ℕ → Option ℕ
cost_of w =
    if not (is_number w) || not (list_all (λ b. b == 48) (decimals w)) then None
    else (if nat_le (least_of_whole (whole_part w)) greatest_cost then Some (least_of_whole (whole_part w)) else None)
