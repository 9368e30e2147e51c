-- Steps that are put at the places of their times, one after another. No public clause cites this module.
use Rattle.std.specs.Prelude.{ℕ, ◌-◌, ◌&&◌, Bool, true, false, nat_le, List, [], ◌∷◌, replicate, slice_get, slice_set, Option, Some, None, if◌then◌else◌}
use Rattle.mp_joint.specs.declared.plan.PlanStep.{PlanStep}
use Rattle.mp_plans.specs.declared.line.TimedStep.{TimedStep}

abbrev pub is_free_slot : Option (Option PlanStep) → Bool
is_free_slot None = false
is_free_slot (Some None) = true
is_free_slot (Some (Some step)) = false

-- a place is there, and no step stands there
abbrev pub is_free : List (Option PlanStep) → ℕ → Bool
is_free slots at = is_free_slot (slice_get slots at)

-- with a step at the place of its time, where that is there and free
abbrev pub with_timed : List (Option PlanStep) → TimedStep → List (Option PlanStep)
with_timed slots timed =
    if nat_le 1 timed.time && is_free slots (timed.time - 1)
    then slice_set slots (timed.time - 1) (Some timed.step) else slots

abbrev pub placed : List TimedStep → List (Option PlanStep) → List (Option PlanStep)
placed [] slots = slots
placed (timed ∷ steps) slots = placed steps (with_timed slots timed)

-- so many places without a step
abbrev pub no_steps : ℕ → List (Option PlanStep)
no_steps most = replicate most None
