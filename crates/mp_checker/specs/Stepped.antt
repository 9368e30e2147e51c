-- A step in numbers, by the places of its facts.
use Rattle.std.specs.Prelude.{ℕ, ◌≡◌, true, false, List, ◌++◌, map, filter, Option}
use Rattle.mp_joint.specs.declared.fact.NamedFact.{NamedFact}
use Rattle.mp_joint.specs.Fact.{Text}
use Rattle.mp_joint.specs.Instance.{Instance}
use Rattle.mp_checker.specs.declared.fact.FactNumbers.{FactNumbers}
use Rattle.mp_checker.specs.declared.numbered.NumberedAction.{NumberedAction}
use Rattle.mp_checker.specs.declared.numbered.ObjectNumber.{ObjectNumber}
use Rattle.mp_checker.specs.declared.room.StepPlaces.{StepPlaces}
use Rattle.mp_checker.specs.At.{fact_at, numbers_of}
use Rattle.mp_checker.specs.Places.{ArePlaces, asked_in}
use Rattle.mp_checker.specs.Steps.{NumberedStep, changes_fact, in_numbers}

-- the step of an agent whose facts have these numbers
abbrev pub step_in : ℕ → StepPlaces → NumberedStep
step_in agent places =
    record {
      agent = agent;
      needs = places.needs.items ++ places.against.items;
      adds = places.adds.items;
      dels = places.dels.items;
    }

-- the facts of an action where these objects stand for its parameters, by their places
pub record AreFactsAt
    (facts : List FactNumbers)
    (agent : ℕ)
    (args : List ObjectNumber)
    (action : NumberedAction)
    (step : NumberedStep)
    : Type 0 where
  pub by : step.agent ≡ agent
  pub needs :
      ArePlaces facts
      (map (λ l. fact_at agent args l.atom) (filter (asked_in true) action.pre)
      ++ map (λ l. fact_at agent args l.atom) (filter (asked_in false) action.pre))
      step.needs
  pub adds : ArePlaces facts (map (fact_at agent args) action.add) step.adds
  pub dels : ArePlaces facts (map (fact_at agent args) action.del) step.dels

-- the facts of an instance by their places; those that it changes have numbers that no other facts have
pub record IsStepped
    (names : List Text)
    (facts : List FactNumbers)
    (agent : ℕ)
    (o : Option Instance)
    (step : NumberedStep)
    : Type 0 where
  pub by : step.agent ≡ agent
  pub needs : ArePlaces facts (in_numbers (numbers_of names) (λ i. i.positive ++ i.negative) o) step.needs
  pub adds : ArePlaces facts (in_numbers (numbers_of names) (λ i. i.add) o) step.adds
  pub dels : ArePlaces facts (in_numbers (numbers_of names) (λ i. i.del) o) step.dels
  pub apart : (f g : NamedFact) → changes_fact o g ≡ true → numbers_of names f ≡ numbers_of names g → f ≡ g
