-- A walk back within one agent finds the end of a path (MAD-A*, Nissim and Brafman 2014).
use Rattle.std.specs.Prelude.{◌≡◌, ℕ, ◌+◌, List, [], ◌∷◌, ◌++◌, length, All}
use Rattle.mp_task.specs.Plan.{TaskStep}
use Rattle.mp_trail.specs.declared.steps.Noted.{Noted}
use Rattle.mp_trail.specs.declared.steps.Walked.{Walked}
use Rattle.mp_trail.specs.declared.steps.Walked.TheVariants.{Root, Hop}
use Rattle.mp_trail.specs.Walk.{Walk}
use Rattle.mp_team_states.specs.Paths.{IsPath, IsSentAt}
use Rattle.mp_world.specs.World.{World}

-- The actions of some steps, the last one first, each with the number of actions that come after
-- it, where so many come after the last one.
unfoldable pub noted_of : ℕ → List TaskStep → List Noted
noted_of back [] = []
noted_of back (step ∷ steps) =
    noted_of back steps ++ record { action = step.action; back = back + length steps } ∷ []

-- Where the walk ended, with the steps before that and the number of actions after it: at the
-- initial state, which no step comes before, or at a state that another agent sent and reached by
-- those steps.
abbrev pub EndsRightly : World → List TaskStep → ℕ → Walked → Type 0
EndsRightly w earlier count (Root back) = (earlier ≡ []) × (back ≡ count)
EndsRightly w earlier count (Hop sender sent back) =
    (there : ℕ) × IsSentAt w sender sent there × IsPath w sender there earlier × (back ≡ count)

-- The walk notes the agent's own actions at the end of the path to an entry.
pub record WalksAlong
    (w : World)
    (agent back : ℕ)
    (steps : List TaskStep)
    (walk : Walk)
    : Type 0 where
  pub earlier : List TaskStep
  pub own : List TaskStep
  pub parts : steps ≡ earlier ++ own
  pub agents : All (λ step. step.agent ≡ agent) own
  pub noted : walk.noted ≡ noted_of back own
  pub end : EndsRightly w earlier (back + length own) walk.end
