-- Plans of the tasks and plans by names.
use Rattle.std.specs.Prelude.{◌≡◌, List, [], ◌∷◌, Some, slice_get}
use Rattle.mp_joint.specs.declared.plan.PlanStep.{PlanStep}
use Rattle.mp_task.specs.Plan.{TaskStep}
use Rattle.mp_stands.specs.Numbering.{Numbering, steps_of}

-- a step by its number is this step by its names
abbrev pub IsNamed : Numbering → TaskStep → PlanStep → Type 0
IsNamed numbering s step = slice_get (steps_of numbering s.agent) s.action ≡ Some step

-- step by step, two plans are one by numbers and by names
abbrev pub AreNamed : Numbering → List TaskStep → List PlanStep → Type 0
AreNamed numbering [] [] = Unit {0}
AreNamed numbering [] (step ∷ steps) = ⊥
AreNamed numbering (s ∷ ss) [] = ⊥
AreNamed numbering (s ∷ ss) (step ∷ steps) = IsNamed numbering s step × AreNamed numbering ss steps
