-- Actions of a plan whose facts are numbers, and the plan that they stand for.
use Rattle.std.specs.Prelude.{ℕ, ◌≡◌, Bool, true, false, List, [], ◌++◌, map, Option, Some, slice_get}
use Rattle.std.specs.Option.{option_map_or}
use Rattle.mp_joint.specs.declared.fact.NamedFact.{NamedFact}
use Rattle.mp_joint.specs.declared.plan.PlanStep.{PlanStep}
use Rattle.mp_joint.specs.Fact.{is_among}
use Rattle.mp_joint.specs.Instance.{Instance}
use Rattle.mp_joint.specs.Plan.{Contribution, instance_of}

-- an action of a plan: its agent, and the numbers of the facts that it asks for or against, adds and deletes
pub record NumberedStep : Type 0 where
  pub agent : ℕ
  pub needs : List ℕ
  pub adds : List ℕ
  pub dels : List ℕ

-- what stands for some of the facts of an instance; what is no instance has none
abbrev pub in_numbers : {X : Type 0} → (NamedFact → X) → (Instance → List NamedFact) → Option Instance → List X
in_numbers number facts o = option_map_or (λ i. map number (facts i)) o []

-- a step in numbers, where each fact has a number
abbrev pub numbered_step : (NamedFact → ℕ) → PlanStep → Option Instance → NumberedStep
numbered_step number step o =
    record {
      agent = step.agent;
      needs = in_numbers number (λ i. i.positive ++ i.negative) o;
      adds = in_numbers number (λ i. i.add) o;
      dels = in_numbers number (λ i. i.del) o;
    }

-- an instance adds or deletes a fact
abbrev pub changes_fact : Option Instance → NamedFact → Bool
changes_fact o f = option_map_or (λ i. is_among f (i.add ++ i.del)) o false

-- Numbered steps are those of a plan: each fact has a number, and one that a step of the plan adds or deletes has a
-- number of its own.
pub record AreNumbered (team : List Contribution) (plan : List PlanStep) (steps : List NumberedStep) : Type 0 where
  pub number : NamedFact → ℕ
  pub are : steps ≡ map (λ step. numbered_step number step (instance_of team step)) plan
  pub apart :
      (place : ℕ) (step : PlanStep) (f g : NamedFact)
      → slice_get plan place ≡ Some step
      → changes_fact (instance_of team step) g ≡ true
      → number f ≡ number g
      → f ≡ g
