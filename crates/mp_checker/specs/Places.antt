-- Facts by their places in a list that grows.
use Rattle.std.specs.Prelude.{ℕ, ◌≡◌, Bool, true, false, not, List, ◌++◌, map, filter, if◌then◌else◌}
use Rattle.std.specs.List.{list_all, position_or_len}
use Rattle.mp_checker.specs.declared.fact.FactNumbers.{FactNumbers}
use Rattle.mp_checker.specs.declared.numbered.NumberedLiteral.{NumberedLiteral}
use Rattle.mp_checker.specs.declared.numbered.ObjectNumber.{ObjectNumber}
use Rattle.mp_checker.specs.At.{fact_at, is_true}
use Rattle.mp_checker.specs.Keys.{same_numbers}

-- the place of a fact in a list
abbrev pub place : List FactNumbers → FactNumbers → ℕ
place facts f = position_or_len (same_numbers f) facts

-- it is that of a fact of the list
pub record IsPlace (facts : List FactNumbers) (f : FactNumbers) (number : ℕ) : Type 0 where
  pub is : number ≡ place facts f
  pub there : is_true facts f ≡ true

-- these are those of some facts, one after another
pub record ArePlaces (facts : List FactNumbers) (these : List FactNumbers) (numbers : List ℕ) : Type 0 where
  pub are : numbers ≡ map (place facts) these
  pub there : list_all (is_true facts) these ≡ true

-- facts stand behind those that were there
pub record HasGrown (old new : List FactNumbers) : Type 0 where
  pub more : List FactNumbers
  pub is : new ≡ old ++ more

-- a literal asks for a fact, or else against it
abbrev pub asked_in : Bool → NumberedLiteral → Bool
asked_in positive literal = if positive then literal.positive else not literal.positive

-- the facts that literals ask for, or else against
abbrev pub asked_facts : ℕ → List ObjectNumber → Bool → List NumberedLiteral → List FactNumbers
asked_facts agent args positive literals = map (λ l. fact_at agent args l.atom) (filter (asked_in positive) literals)

-- these are the places of those that literals ask for, and of those that they ask against
pub record AreAsked
    (facts : List FactNumbers)
    (agent : ℕ)
    (args : List ObjectNumber)
    (literals : List NumberedLiteral)
    (needs against : List ℕ)
    : Type 0 where
  pub positive : ArePlaces facts (asked_facts agent args true literals) needs
  pub negative : ArePlaces facts (asked_facts agent args false literals) against
