-- The tasks of a team stand for its factors.
use Rattle.std.specs.Prelude.{◌≡◌, ◌≢◌, ◌↔◌, ℕ, List, length, filter, Bool, true, ◌==◌, Option, Some, None, Contains, AllPairs, IsTrue, slice_get}
use Rattle.std.specs.Option.{option_map_or}
use Rattle.mp_forms.specs.declared.factor.Factor.{Factor}
use Rattle.mp_joint.specs.declared.fact.SignedFact.{SignedFact}
use Rattle.mp_joint.specs.declared.plan.PlanStep.{PlanStep}
use Rattle.mp_joint.specs.FactorContribution.{team_of}
use Rattle.mp_joint.specs.Instance.{Instance, holds}
use Rattle.mp_joint.specs.Plan.{joint_start}
use Rattle.mp_task.specs.declared.act.Act.{Act}
use Rattle.mp_task.specs.AgentTask.{AgentTask}
use Rattle.mp_task.specs.Agreement.{Agree}
use Rattle.mp_stands.specs.Numbering.{Numbering, AreNumbersFor, privates_of, steps_of}
use Rattle.mp_stands.specs.Touched.{IsGrounded, IsCounted, needed, added, deleted, goals}

-- The list has exactly the counted facts and complements that have this owner, each once.
pub record AreCounted
    (team : List Factor)
    (owner : Option ℕ)
    (table : List SignedFact)
    : Type 0 where
  pub once : AllPairs (λ x y. x ≢ y) table
  pub exact : (x : SignedFact) → Contains table x ↔ ((x.fact.owner ≡ owner) × IsCounted team x)

-- Of an agent with this factor an own action stands for this instance: it has the numbers of what
-- the instance needs, adds and deletes, and its cost.
pub record IsActionOf
    (team : List Factor)
    (numbering : Numbering)
    (factor : Factor)
    (agent : ℕ)
    (act : Act)
    (i : Instance)
    : Type 0 where
  pub pre : AreNumbersFor numbering agent (needed team factor i) act.pre_pub act.pre_priv
  pub add : AreNumbersFor numbering agent (added team factor i) act.add_pub act.add_priv
  pub del : AreNumbersFor numbering agent (deleted team factor i) act.del_pub act.del_priv
  pub cost : act.cost ≡ i.cost

-- The own actions of an agent stand for its grounded instances, each for another one and for each of
-- them one.
pub record AreActionsOf
    (team : List Factor)
    (numbering : Numbering)
    (agent : ℕ)
    (acts : List Act)
    : Type 0 where
  pub one_each : length (steps_of numbering agent) ≡ length acts
  pub once : AllPairs (λ a b. a ≢ b) (steps_of numbering agent)
  pub own : (step : PlanStep) → Contains (steps_of numbering agent) step → step.agent ≡ agent
  pub all :
      (step : PlanStep) (factor : Factor) (i : Instance)
      → step.agent ≡ agent → IsGrounded team step factor i
      → Contains (steps_of numbering agent) step
  pub stand :
      (n : ℕ) (act : Act) (step : PlanStep)
      → slice_get acts n ≡ Some act → slice_get (steps_of numbering agent) n ≡ Some step
      → (factor : Factor) × (i : Instance) × IsGrounded team step factor i
      × IsActionOf team numbering factor agent act i

-- the numbers of what is true at the start
abbrev pub AreTrueAtStart : List Factor → List SignedFact → List ℕ → Type 0
AreTrueAtStart team table numbers =
    (n : ℕ) → Contains numbers n
    ↔ ((x : SignedFact)
    × (slice_get table n ≡ Some x)
    × IsTrue (holds (joint_start (team_of team)) x))

-- public facts are everybody's, and private ones their owner's
abbrev pub is_known_to : ℕ → SignedFact → Bool
is_known_to agent x = option_map_or (λ owner. owner == agent) x.fact.owner true

-- the task of an agent stands for its factor
pub record TaskStands (team : List Factor) (numbering : Numbering) (t : AgentTask) : Type 0 where
  pub publics : t.publics ≡ length numbering.publics
  pub privates : t.privates ≡ length (privates_of numbering t.me)
  pub counted : AreCounted team (Some t.me) (privates_of numbering t.me)
  pub acts : AreActionsOf team numbering t.me t.acts
  pub start_pub : AreTrueAtStart team numbering.publics t.start_pub
  pub start_priv : AreTrueAtStart team (privates_of numbering t.me) t.start_priv
  pub goal :
      AreNumbersFor numbering t.me (filter (is_known_to t.me) (goals team)) t.goal_pub t.goal_priv

-- The tasks of a team stand for its factors, one task for each: numbers stand for different facts and
-- complements, and each that a grounded instance touches or a goal names has one; own actions stand
-- for the grounded instances; the start and the goals are those of the united problem; and the tasks
-- agree on what each shows the others.
pub record Stands
    (team : List Factor)
    (numbering : Numbering)
    (tasks : List AgentTask)
    : Type 0 where
  pub one_each : length tasks ≡ length team
  pub counted : AreCounted team None numbering.publics
  pub tasks_stand : (t : AgentTask) → Contains tasks t → TaskStands team numbering t
  pub agree : Agree tasks
