-- What a table that is being settled has: a number for each set of facts of a pattern, and a queue of sets whose number
-- has changed.
use Rattle.std.specs.Prelude.{◌≡◌, ℕ, ◌+◌, ◌^◌, ◌<◌, ◌≤◌, Some, option_map, List, length, Contains, IsTrue}
use Rattle.mp_estimates.specs.Estimates.{AtMost, Values}
use Rattle.mp_estimates.specs.Lowering.{number_at, Key, Waits, AreBelow}
use Rattle.mp_pdb.specs.declared.moves.Move.{Move}
use Rattle.mp_pdb.specs.Moves.{after_move, has_all}

-- values of sets below a size are at most what they are by each move
abbrev pub AreLow : ℕ → List Move → Values → Type 0
AreLow size moves values =
    (mask : ℕ) (move : Move)
    → Contains moves move
    → mask < size
    → IsTrue (has_all mask move.pre)
    → AtMost (values mask) (option_map (λ c. move.cost + c) (values (after_move move mask)))

-- a number is at most what it is by a move, unless the set after it waits
abbrev pub IsServed : List ℕ → List Key → Move → ℕ → Type 0
IsServed numbers queue move mask =
    IsTrue (has_all mask move.pre)
    → ¬ Waits numbers queue (after_move move mask)
    → number_at numbers mask ≤ move.cost + number_at numbers (after_move move mask)

-- sets from which a move leads to a settled one have numbers of at most a cost
abbrev pub AreReached : ℕ → List ℕ → Move → ℕ → ℕ → Type 0
AreReached size numbers move to cost =
    (mask : ℕ)
    → mask < size
    → IsTrue (has_all mask move.pre)
    → after_move move mask ≡ to
    → number_at numbers mask ≤ cost

-- a move is one of sets below a size
pub record MoveFits (size : ℕ) (move : Move) : Type 0 where
  pub pre : move.pre < size
  pub add : move.add < size
  pub del : move.del < size

-- how many sets there are of at most 12 facts
pub record IsSize (size : ℕ) : Type 0 where
  pub facts : ℕ
  pub few : facts ≤ 12
  pub is : size ≡ 2 ^ facts

-- A table of the least costs at which moves lead from sets below a size to one that has a goal: no number is greater than
-- by a move, and values that no move lowers are at most the numbers.
pub record IsTable (size : ℕ) (moves : List Move) (goal : ℕ) (numbers : List ℕ) : Type 0 where
  pub long : length numbers ≡ size
  pub goals :
      (mask : ℕ)
      → mask < size
      → IsTrue (has_all mask goal)
      → number_at numbers mask ≡ 0
  pub served :
      (mask : ℕ) (move : Move)
      → Contains moves move
      → mask < size
      → IsTrue (has_all mask move.pre)
      → number_at numbers mask ≤ move.cost + number_at numbers (after_move move mask)
  pub below :
      (values : Values)
      → ((mask : ℕ) → mask < size → IsTrue (has_all mask goal) → AtMost (values mask) (Some 0))
      → AreLow size moves values
      → AreBelow values numbers
