-- What the numbers of a team's nameless tasks stand for.
use Rattle.std.specs.Prelude.{◌≡◌, ◌⊎◌, ℕ, ◌-◌, List, [], Some, Contains, slice_get, slice_index_or}
use Rattle.mp_joint.specs.declared.fact.SignedFact.{SignedFact}
use Rattle.mp_joint.specs.declared.plan.PlanStep.{PlanStep}

-- Public numbers stand for public facts and complements, the private numbers of each agent for its
-- private ones, and its own action numbers for its steps. Each number is a place in its list; the
-- lists of an agent are at the place of the agent, the first agent's first.
pub record Numbering : Type 0 where
  pub publics : List SignedFact
  pub privates : List (List SignedFact)
  pub steps : List (List PlanStep)

-- agents are numbered from 1
abbrev pub privates_of : Numbering → ℕ → List SignedFact
privates_of numbering agent = slice_index_or numbering.privates (agent - 1) []

abbrev pub steps_of : Numbering → ℕ → List PlanStep
steps_of numbering agent = slice_index_or numbering.steps (agent - 1) []

-- one of these numbers stands for it
abbrev pub HasNumberAmong : List SignedFact → List ℕ → SignedFact → Type 0
HasNumberAmong table numbers x = (n : ℕ) × (Contains numbers n) × (slice_get table n ≡ Some x)

-- the number stands for one of these
abbrev pub StandsForOneOf : List SignedFact → List SignedFact → ℕ → Type 0
StandsForOneOf table facts n = (x : SignedFact) × (slice_get table n ≡ Some x) × (Contains facts x)

-- The numbers of some facts and complements, the public numbers in one list and an agent's private
-- ones in another: each of them has its number there, and nothing else is there.
pub record AreNumbersOf
    (publics privates facts : List SignedFact)
    (public_numbers private_numbers : List ℕ)
    : Type 0 where
  pub each :
      (x : SignedFact) → Contains facts x
      → HasNumberAmong publics public_numbers x ⊎ HasNumberAmong privates private_numbers x
  pub only_public : (n : ℕ) → Contains public_numbers n → StandsForOneOf publics facts n
  pub only_private : (n : ℕ) → Contains private_numbers n → StandsForOneOf privates facts n

-- the same with the numbers that an agent knows
abbrev pub AreNumbersFor : Numbering → ℕ → List SignedFact → List ℕ → List ℕ → Type 0
AreNumbersFor numbering agent facts public_numbers private_numbers =
    AreNumbersOf numbering.publics (privates_of numbering agent) facts public_numbers private_numbers
