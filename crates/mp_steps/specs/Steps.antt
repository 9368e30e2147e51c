-- The steps of a plan and its chain (parallel plans: Blum and Furst 1997; Bäckström 1998).
use Rattle.std.specs.Prelude.{ℕ, zero, suc, ◌==◌, ◌&&◌, nat_lt, List, [], ◌∷◌, ◌++◌, map, Option, find, filter, slice_get}
use Rattle.std.specs.List.{range_with_len}
use Rattle.std.specs.Option.{option_map_or}
use Rattle.mp_steps.specs.Levels.{Test, times, greatest, level_at}

-- the times of the actions of a level, where these are the levels of so many actions
abbrev pub step_of : List ℕ → ℕ → ℕ → List ℕ
step_of levels count level = filter (λ t. level_at levels t == level) (times count)

-- the actions of each level, from level 1 on
abbrev pub steps : List ℕ → ℕ → List (List ℕ)
steps levels count = map (step_of levels count) (range_with_len 1 (greatest levels))

-- the lowest earlier time of a level whose action interferes with that of this time
abbrev pub lowest_before : Test → List ℕ → ℕ → ℕ → ℕ → Option ℕ
lowest_before interfere levels count level t =
    find (λ u. nat_lt u t && interfere u t) (step_of levels count level)

-- the chain up to a time, where so many steps stand before its own
abbrev pub chain_to : Test → List ℕ → ℕ → ℕ → ℕ → List ℕ
chain_to interfere levels count zero t = t ∷ []
chain_to interfere levels count (suc before) t =
    option_map_or (chain_to interfere levels count before) (lowest_before interfere levels count (suc before) t) [] ++ t ∷ []

-- the chain whose last time is the lowest of the step with this number, the last one
abbrev pub chain_of : Test → List ℕ → ℕ → ℕ → List ℕ
chain_of interfere levels count zero = []
chain_of interfere levels count (suc before) =
    option_map_or (chain_to interfere levels count before) (slice_get (step_of levels count (suc before)) 0) []

-- The chain of a plan. It begins from its end: its last time is the lowest of the last step, and before each time stands
-- the lowest earlier one of the step before whose action interferes with it.
abbrev pub chain : Test → List ℕ → ℕ → List ℕ
chain interfere levels count = chain_of interfere levels count (greatest levels)
