-- Worked plans of teams whose agents have one action each, and a worked test of times.
use Rattle.std.specs.Prelude.{◌==◌, ◌&&◌, ◌||◌, List, [], ◌∷◌, Some, codes}
use Rattle.mp_joint.specs.declared.plan.PlanStep.{PlanStep}
use Rattle.mp_joint.specs.Examples.{step, instance}
use Rattle.mp_joint.specs.Instance.{Instance}
use Rattle.mp_joint.specs.Plan.{Contribution}
use Rattle.mp_steps.specs.Levels.{Test}

-- an agent with one action
abbrev pub acting : Instance → Contribution
acting i = record { instance_at = λ name objects. Some i; init = []; goal = []; never = [] }

abbrev pub two_agents : Instance → Instance → List Contribution
two_agents i j = acting i ∷ acting j ∷ []

-- the first agent's action and then the second one's
abbrev pub one_each : List PlanStep
one_each = step 1 (codes "a") ∷ step 2 (codes "b") ∷ []

-- actions by what they ask for, ask against, add and delete
abbrev pub asking : Instance
asking = instance (codes "p" ∷ []) [] [] []

abbrev pub asking_against : Instance
asking_against = instance [] (codes "p" ∷ []) [] []

abbrev pub adding : Instance
adding = instance [] [] (codes "p" ∷ []) []

abbrev pub deleting : Instance
deleting = instance [] [] [] (codes "p" ∷ [])

abbrev pub doing_both : Instance
doing_both = instance [] [] (codes "p" ∷ []) (codes "p" ∷ [])

-- of four actions the first interferes with the second, the second with the fourth and the third with the fourth
abbrev pub of_four : Test
of_four t u = (t == 1 && u == 2) || ((t == 2 && u == 4) || (t == 3 && u == 4))

-- of four actions the first two interfere with the last two, but the second not with the third
abbrev pub of_pairs : Test
of_pairs t u = (t == 1 && (u == 3 || u == 4)) || (t == 2 && u == 4)
