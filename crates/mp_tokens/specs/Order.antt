-- Tokens of sets: in messages a number stands for an agent's private set, and tells no more of it than which
-- sets are equal. The initial set has 0, and each other set gets the next number at its first use. MAD-A*
-- (Nissim and Brafman 2014) keeps private facts out of messages; these numbers are this program's own way.
use Rattle.std.specs.Prelude.{ℕ, ◌<◌, nat_lt, List, [], ◌∷◌, ◌++◌, length, slice_index_or, if◌then◌else◌, ◌≡◌}
use Rattle.std.specs.List.{position_or_len}
use Rattle.std.specs.FinSet as set
use Rattle.mp_sets.specs.Numbers.{Numbers, same}

-- the set at a place of a list, and the empty one past its end
abbrev pub set_at : List Numbers → ℕ → Numbers
set_at sets i = slice_index_or sets i set.empty

-- the place of a set in a list, from 0, or the length of the list where it is not there
unfoldable pub place : List Numbers → Numbers → ℕ
place sets s = position_or_len (same s) sets

-- a list of different sets with one more at its end, unless that one is there
abbrev pub with_set : List Numbers → Numbers → List Numbers
with_set sets s = if nat_lt (place sets s) (length sets) then sets else sets ++ s ∷ []

-- the same with each set of another list in turn
abbrev pub with_sets : List Numbers → List Numbers → List Numbers
with_sets sets [] = sets
with_sets sets (s ∷ more) = with_sets (with_set sets s) more

-- the initial set, and then the different other sets of a list of uses in the order of their first use
abbrev pub order_of_use : Numbers → List Numbers → List Numbers
order_of_use start uses = with_sets (start ∷ []) uses

-- The token of a set: 0 for the initial one, and otherwise 1 plus the number of different other sets that
-- were used before its first use.
abbrev pub token : Numbers → List Numbers → Numbers → ℕ
token start uses s = place (order_of_use start uses) s

-- no set stands at two places of a list
abbrev pub AreDifferent : List Numbers → Type 0
AreDifferent sets =
    (i j : ℕ) → i < length sets → j < length sets → set_at sets i ≡ set_at sets j → i ≡ j
