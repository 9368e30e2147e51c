-- Abstract operators over sets of facts of a pattern that are binary numbers.
use Rattle.std.specs.Prelude.{◌≡◌, ℕ, ◌≤◌, ◌==◌, Bool, IsTrue, bit_and, bit_or, List, length, slice_index_or, All, Contains, ◌<◌}
use Rattle.std.specs.Int.{bit_not, w16}
use Rattle.mp_task.specs.Strips.{Operator}
use Rattle.mp_pdb.specs.declared.moves.Move.{Move}
use Rattle.mp_pdb.specs.Masks.{Shows}
use Rattle.mp_pdb.specs.Pattern.{is_in}

-- a set has all facts of another
abbrev pub has_all : ℕ → ℕ → Bool
has_all mask part = bit_and mask part == part

-- the set after a move
abbrev pub after_move : Move → ℕ → ℕ
after_move move mask = bit_or (bit_and mask (bit_not w16 move.del)) move.add

-- the facts of a pattern in the lists of an operator are those of a move
pub record HasLists (pattern : List ℕ) (o : Operator) (move : Move) : Type 0 where
  pub pre : Shows pattern (is_in o.pre) move.pre
  pub add : Shows pattern (is_in o.add) move.add
  pub del : Shows pattern (is_in o.del) move.del

pub record StandsFor (pattern : List ℕ) (o : Operator) (move : Move) : Type 0 where
  pub lists : HasLists pattern o move
  pub cost : move.cost ≡ o.cost

-- a move changes nothing: what it adds it needs, and what it deletes it adds
pub record IsIdle (move : Move) : Type 0 where
  pub needed : IsTrue (has_all move.pre move.add)
  pub added : IsTrue (has_all move.add move.del)

-- two moves have the same sets
pub record IsLike (a b : Move) : Type 0 where
  pub pre : a.pre ≡ b.pre
  pub add : a.add ≡ b.add
  pub del : a.del ≡ b.del

-- a move with the same sets as another stands at a place of a list
pub record IsPlaceOf (moves : List Move) (place : ℕ) (found : Move) : Type 0 where
  pub within : place < length moves
  pub like : IsLike (slice_index_or moves place found) found

-- an operator is among moves where one has its lists at no greater cost, or where it changes nothing
pub data HasMove (pattern : List ℕ) (moves : List Move) (o : Operator) : Type 0 where
  by_move :
      (move : Move)
      → Contains moves move
      → HasLists pattern o move
      → move.cost ≤ o.cost
      → HasMove pattern moves o
  by_nothing : (move : Move) → HasLists pattern o move → IsIdle move → HasMove pattern moves o

-- a move is that of one of some operators
pub record IsMoveOf (pattern : List ℕ) (operators : List Operator) (move : Move) : Type 0 where
  pub operator : Operator
  pub among : Contains operators operator
  pub stands : StandsFor pattern operator move

-- moves are those of some operators
pub record AreMoves (pattern : List ℕ) (operators : List Operator) (moves : List Move) : Type 0 where
  pub sound : All (IsMoveOf pattern operators) moves
  pub whole : All (HasMove pattern moves) operators
