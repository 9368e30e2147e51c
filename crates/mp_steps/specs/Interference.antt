-- Which actions of a plan interfere (Blum and Furst 1997, Graphplan), with negative preconditions (PDDL 2.1) and agents
-- (MA-STRIPS).
use Rattle.std.specs.Prelude.{ℕ, zero, suc, ◌==◌, Bool, false, ◌||◌, List, ◌++◌, Option, None, slice_get}
use Rattle.std.specs.List.{list_any}
use Rattle.std.specs.Option.{option_map_or}
use Rattle.mp_joint.specs.declared.fact.NamedFact.{NamedFact}
use Rattle.mp_joint.specs.declared.plan.PlanStep.{PlanStep}
use Rattle.mp_joint.specs.Fact.{is_among}
use Rattle.mp_joint.specs.Instance.{Instance}
use Rattle.mp_joint.specs.Plan.{Contribution, instance_of}
use Rattle.mp_steps.specs.Levels.{Test}

-- one of these facts is among those
abbrev pub share : List NamedFact → List NamedFact → Bool
share fs gs = list_any (λ f. is_among f gs) fs

-- the facts that an instance asks for, whether they are to be true or false
abbrev pub needs : Instance → List NamedFact
needs i = i.positive ++ i.negative

-- the facts that it adds or deletes, as its schema says
abbrev pub changes : Instance → List NamedFact
changes i = i.add ++ i.del

-- one adds or deletes what the other asks for, or one adds what the other deletes
abbrev pub conflict : Instance → Instance → Bool
conflict i j =
    (share (changes i) (needs j) || share (needs i) (changes j))
    || (share i.add j.del || share i.del j.add)

-- what is no instance conflicts with nothing
abbrev pub in_conflict : Option Instance → Option Instance → Bool
in_conflict o p = option_map_or (λ i. option_map_or (λ j. conflict i j) p false) o false

-- two actions of a plan interfere where they are of one agent, or their instances conflict
abbrev pub interfere : List Contribution → PlanStep → PlanStep → Bool
interfere team x y = x.agent == y.agent || in_conflict (instance_of team x) (instance_of team y)

-- the action of a time
abbrev pub at_time : List PlanStep → ℕ → Option PlanStep
at_time plan zero = None
at_time plan (suc place) = slice_get plan place

-- the actions of two times of a plan interfere
abbrev pub interfere_at : List Contribution → List PlanStep → Test
interfere_at team plan t u =
    option_map_or (λ x. option_map_or (λ y. interfere team x y) (at_time plan u) false) (at_time plan t) false
