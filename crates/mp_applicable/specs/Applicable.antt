-- Which own actions apply in a state.
use Rattle.std.specs.Prelude.{ℕ, Bool, false, List, slice_get, if◌then◌else◌}
use Rattle.std.specs.Option.{option_map_or}
use Rattle.std.specs.FinSet as set
use Rattle.mp_sets.specs.Numbers.{Numbers}
use Rattle.mp_task.specs.declared.act.Act.{Act}
use Rattle.mp_task.specs.Plan.{applies}

-- there is an action of a number, and its preconditions are true
abbrev pub is_applicable : List Act → Numbers → Numbers → ℕ → Bool
is_applicable acts publics privates number =
    option_map_or (λ act. applies act publics privates) (slice_get acts number) false

-- a set, with a number more where a test says so
abbrev pub added_if : Bool → ℕ → Numbers → Numbers
added_if b x s = if b then set.insert s x else s
