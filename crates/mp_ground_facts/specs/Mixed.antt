-- The parts of a fact or complement, mixed to one number, which is what they feed a hash function.
use Rattle.std.specs.Prelude.{ℕ, ◌+◌, ◌*◌, ◌%◌, ◌^◌, Bool, List, if◌then◌else◌}
use Rattle.std.specs.List.{fold}

-- a number with an object
abbrev pub mixed_with : ℕ → ℕ → ℕ
mixed_with number object = (number * 0x9e37_79b9_7f4a_7c15 % 2 ^ 64 + object) % 2 ^ 64

-- a number with objects, one after another
unfoldable pub mixed_with_all : ℕ → List ℕ → ℕ
mixed_with_all number objects = fold mixed_with number objects

abbrev pub mixed : Bool → Bool → ℕ → List ℕ → ℕ
mixed is_public is_complement predicate objects =
    mixed_with_all (predicate * 4 + (if is_public then 1 else 0) * 2 + (if is_complement then 1 else 0)) objects
