-- Entries of several lists, sorted by stamps.
use Rattle.std.specs.Prelude.{◌≡◌, ◌==◌, ◌≤◌, ℕ, Bool, List}
use Rattle.std.specs.List.{AllPairs, filter, flat_map}
use Rattle.std.specs.List.Sorted.{IsPermutation}
use Rattle.mp_messages.specs.declared.history.Entry.{Entry}
use Rattle.mp_stamps.specs.Lists.{entries}
use Rattle.mp_stamps.specs.declared.stamped.Stamped.{Stamped}

abbrev pub has_stamp : ℕ → Stamped → Bool
has_stamp stamp s = s.stamp == stamp

-- the same entries by their stamps, those of one stamp in the order in which they were
pub record AreSorted (xs ys : List Stamped) : Type 0 where
  pub same : IsPermutation xs ys
  pub rise : AllPairs (λ a b. a.stamp ≤ b.stamp) ys
  pub stay : (stamp : ℕ) → filter (has_stamp stamp) ys ≡ filter (has_stamp stamp) xs

-- a log has the entries of all lists by their stamps, those of one stamp in the order of the lists
pub record IsInOrderOf (lists : List (List Stamped)) (log : List Entry) : Type 0 where
  pub order : List Stamped
  pub sorted : AreSorted (flat_map (λ list. list) lists) order
  pub log_is : log ≡ entries order
