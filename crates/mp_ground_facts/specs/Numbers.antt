-- The numbers of facts that are met one after another.
use Rattle.std.specs.Prelude.{ℕ, List, [], ◌∷◌, ◌++◌}
use Rattle.mp_ground_facts.specs.declared.fact.GroundFact.{GroundFact}
use Rattle.mp_ground_facts.specs.Ground.{number_of, numbers_of}

-- the facts of a factor, and the numbers of some of them
pub record Numbers : Type 0 where
  pub facts : List GroundFact
  pub numbers : List ℕ

-- the numbers of these
abbrev pub numbered : List GroundFact → List GroundFact → Numbers
numbered facts some = record { facts = facts; numbers = numbers_of facts some }

-- and of one more
abbrev pub with_number : Numbers → GroundFact → Numbers
with_number n f = record { facts = n.facts; numbers = n.numbers ++ number_of n.facts f ∷ [] }
