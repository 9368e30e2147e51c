-- The actions that one agent has of a plan, and their times. An action's time is its place on the plan from 1, which is
-- the plan's length less the number of actions that come after it.
use Rattle.std.specs.Prelude.{ℕ, ◌-◌, ◌<◌, nat_lt, Bool, List, map, reverse, AllPairs}
use Rattle.std.specs.List.{list_all}
use Rattle.mp_trail.specs.declared.steps.Noted.{Noted}
use Rattle.mp_trail.specs.declared.steps.Timed.{Timed}

-- whether each noted action has fewer actions than that after it
abbrev pub fits : ℕ → List Noted → Bool
fits limit noted = list_all (λ n. nat_lt n.back limit) noted

-- of two noted actions the later one has more actions after it
abbrev pub IsRising : List Noted → Type 0
IsRising noted = AllPairs (λ n later. n.back < later.back) noted

abbrev pub timed : ℕ → Noted → Timed
timed length n = record { time = length - n.back; action = n.action }

-- The noted actions by rising time: the last one that was noted comes first on the plan.
abbrev pub share : ℕ → List Noted → List Timed
share length noted = reverse (map (timed length) noted)
