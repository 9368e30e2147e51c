-- Levels of the actions of a plan (parallel plans: Blum and Furst 1997, Graphplan; reordering: Bäckström 1998).
-- Actions are named by their times in the plan, which count from 1. Which two interfere is a test of two times, the
-- earlier one first.
use Rattle.std.specs.Prelude.{ℕ, zero, suc, ◌+◌, max, Bool, List, [], ◌∷◌, ◌++◌, map, slice_index_or, if◌then◌else◌}
use Rattle.std.specs.List.{range_with_len}

-- which times interfere
abbrev pub Test : Type 0
Test = ℕ → ℕ → Bool

-- the times of a plan of so many actions
abbrev pub times : ℕ → List ℕ
times count = range_with_len 1 count

-- the greatest of some numbers, 0 where there is none
abbrev pub greatest : List ℕ → ℕ
greatest [] = 0
greatest (n ∷ ns) = max n (greatest ns)

-- the level of the action of a time
abbrev pub level_at : List ℕ → ℕ → ℕ
level_at levels zero = 0
level_at levels (suc place) = slice_index_or levels place 0

-- The levels of the first actions of a plan, of so many. An action's level is 1 more than the greatest one of an earlier
-- action that interferes with it, and 1 where none does.
abbrev pub levels : Test → ℕ → List ℕ
levels interfere zero = []
levels interfere (suc count) =
    let earlier = levels interfere count in
    earlier ++ (greatest (map (λ t. if interfere t (suc count) then level_at earlier t else 0) (times count)) + 1) ∷ []
