-- The delivery family: the files of teams whose agents hand a box on.
use Rattle.std.specs.Prelude.{ℕ, List, [], ◌∷◌}
use Rattle.std.specs.List.{flat_map, range_with_len}
use Rattle.mp_maker.specs.Domain.{Text, domain}
use Rattle.mp_maker.specs.Problem.{problem}

-- the files of a team of so many: for each agent its domain and its problem
abbrev pub delivery : ℕ → ℕ → List Text
delivery size number = flat_map (λ agent. domain ∷ problem size number agent ∷ []) (range_with_len 1 size)
