-- A merge by turns: the list that begins with the least stamp gives its entries until another list's turn comes.
use Rattle.std.specs.Prelude.{◌≡◌, ◌<◌, ◌≤◌, ℕ, All, List, [], ◌∷◌, ◌++◌, length, nat_lt, Bool, false, not, Option, Some, None, if◌then◌else◌}
use Rattle.mp_stamps.specs.declared.merging.Turn.{Turn}
use Rattle.mp_stamps.specs.declared.stamped.Stamped.{Stamped}

-- the entries of a list up to a stamp, and those behind them
abbrev pub up_to : ℕ → List Stamped → List Stamped
up_to last [] = []
up_to last (s ∷ ss) = if nat_lt last s.stamp then [] else s ∷ up_to last ss

abbrev pub left_behind : ℕ → List Stamped → List Stamped
left_behind last [] = []
left_behind last (s ∷ ss) = if nat_lt last s.stamp then s ∷ ss else left_behind last ss

-- a list begins with a stamp
abbrev pub Begins : ℕ → List Stamped → Type 0
Begins stamp [] = ⊥
Begins stamp (s ∷ ss) = s.stamp ≡ stamp

-- the stamp with which a list begins, none where it has no entry
abbrev pub BeginsWith : Option ℕ → List Stamped → Type 0
BeginsWith None list = list ≡ []
BeginsWith (Some stamp) list = Begins stamp list

-- a list begins up to a stamp
abbrev pub begins_up_to : ℕ → List Stamped → Bool
begins_up_to last [] = false
begins_up_to last (s ∷ ss) = not (nat_lt last s.stamp)

-- no list begins up to a stamp, or before it
abbrev pub BeginsAfter : ℕ → List Stamped → Type 0
BeginsAfter stamp [] = Unit {0}
BeginsAfter stamp (s ∷ ss) = stamp < s.stamp

abbrev pub BeginsFrom : ℕ → List Stamped → Type 0
BeginsFrom stamp [] = Unit {0}
BeginsFrom stamp (s ∷ ss) = stamp ≤ s.stamp

-- a turn of one of several lists: up to its last stamp nothing of the others comes first
pub record IsTurnOf (lists : List (List Stamped)) (turn : Turn) : Type 0 where
  pub before : List (List Stamped)
  pub own : List Stamped
  pub behind : List (List Stamped)
  pub is : lists ≡ before ++ own ∷ behind
  pub place : length before ≡ turn.at
  pub begins : Begins turn.stamp own
  pub in_time : turn.stamp ≤ turn.last
  pub after : All (BeginsAfter turn.last) before
  pub from : All (BeginsFrom turn.last) behind

-- there is no turn where no list has an entry
abbrev pub IsTurn : List (List Stamped) → Option Turn → Type 0
IsTurn lists None = All (λ list. list ≡ []) lists
IsTurn lists (Some turn) = IsTurnOf lists turn
