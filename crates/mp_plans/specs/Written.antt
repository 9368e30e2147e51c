-- Outcomes that are written with their plan: each agent's share is what it has of the plan, and steps have the names
-- that files have.
use Rattle.std.specs.Prelude.{◌≡◌, ◌<◌, ◌≤◌, ◌^◌, ℕ, ◌+◌, ◌==◌, Bool, true, filter, List, [], ◌∷◌, length, slice_get, slice_index_or, All, Option}
use Rattle.std.specs.List.{filter_map, list_all}
use Rattle.std.specs.Option.{option_map}
use Rattle.mp_forms.specs.Kinds.{is_name}
use Rattle.mp_joint.specs.declared.plan.PlanStep.{PlanStep}
use Rattle.mp_messages.specs.declared.history.Entry.{Entry}
use Rattle.mp_trail.specs.declared.steps.Timed.{Timed}
use Rattle.mp_world.specs.declared.answer.Answer.TheVariants.{Solved}
use Rattle.mp_world.specs.declared.outcome.Outcome.{Outcome}
use Rattle.mp_text.specs.Again.{IsAgent}
use Rattle.mp_text.specs.Outcome.{message_bytes, names_at}
use Rattle.mp_plans.specs.declared.line.TimedStep.{TimedStep}

-- the steps of a plan with their times, of which the first is this one
abbrev pub timed_steps : ℕ → List PlanStep → List TimedStep
timed_steps time [] = []
timed_steps time (step ∷ steps) = record { time = time; step = step } ∷ timed_steps (time + 1) steps

-- whether a step is one of this agent's
abbrev pub is_of : ℕ → TimedStep → Bool
is_of agent timed = timed.step.agent == agent

-- what an agent has of a plan
abbrev pub steps_of : ℕ → List PlanStep → List TimedStep
steps_of agent plan = filter (is_of agent) (timed_steps 1 plan)

-- what an own action on a plan stands for, where its number stands for a step
abbrev pub named_step : List PlanStep → Timed → Option TimedStep
named_step own timed = option_map (λ step. record { time = timed.time; step = step }) (slice_get own timed.action)

-- a step of a team of so many agents, by names as files have them
pub record IsNamedStep (agents : ℕ) (step : PlanStep) : Type 0 where
  pub agent : IsAgent agents step.agent
  pub action : is_name step.action ≡ true
  pub args : list_all is_name step.args ≡ true

-- The agents of a team of at most 16 share a plan of so many steps, as the outcome says, and by these names each agent's
-- share is what it has of the plan. The plan's length and the cost that is told are below 2^60.
pub record TellsPlan (outcome : Outcome) (names : List (List PlanStep)) (cost : ℕ) (plan : List PlanStep) : Type 0 where
  pub answer : outcome.answer ≡ Solved cost (length plan)
  pub few : length outcome.shares ≤ 16
  pub steps : All (IsNamedStep (length outcome.shares)) plan
  pub shares :
      (place : ℕ) → place < length outcome.shares
      → filter_map (named_step (names_at names place)) (slice_index_or outcome.shares place []) ≡ steps_of (place + 1) plan
  pub cheap : cost < 2 ^ 60
  pub short : length plan < 2 ^ 60

-- a log that has at most so many entries and bytes of messages as numbers of 64 and of 128 bits count
pub record IsCounted (log : List Entry) : Type 0 where
  pub entries : length log < 2 ^ 64
  pub bytes : message_bytes log < 2 ^ 128
