-- The parts of a fact, mixed to one number, which is what they feed a hash function.
use Rattle.std.specs.Prelude.{ℕ, ◌+◌, ◌*◌, ◌%◌, ◌^◌, List, Option, Some, None}
use Rattle.std.specs.List.{fold}

-- a number with another
abbrev pub mixed_with : ℕ → ℕ → ℕ
mixed_with number next = (number * 0x9e37_79b9_7f4a_7c15 % 2 ^ 64 + next) % 2 ^ 64

-- a number with others, one after another
unfoldable pub mixed_with_all : ℕ → List ℕ → ℕ
mixed_with_all number others = fold mixed_with number others

abbrev pub owner_number : Option ℕ → ℕ
owner_number None = 0
owner_number (Some agent) = agent

abbrev pub mixed : Option ℕ → ℕ → List ℕ → ℕ
mixed owner symbol objects = mixed_with_all (mixed_with (owner_number owner) symbol) objects
