-- Stamped lists merged to one log (Lamport 1978).
use Rattle.std.specs.Prelude.{◌≡◌, ◌<◌, ◌≤◌, ◌⊎◌, List}
use Rattle.std.specs.List.{AllPairs, flat_map}
use Rattle.std.specs.List.Sorted.{IsPermutation}
use Rattle.mp_messages.specs.declared.history.Entry.{Entry}
use Rattle.mp_messages.specs.History.{agent_of}
use Rattle.mp_stamps.specs.Lists.{entries}
use Rattle.mp_stamps.specs.declared.stamped.Stamped.{Stamped}

-- in the order of stamps, and of agents where stamps are equal
abbrev pub IsInOrder : Stamped → Stamped → Type 0
IsInOrder a b = (a.stamp < b.stamp) ⊎ ((a.stamp ≡ b.stamp) × (agent_of a.entry ≤ agent_of b.entry))

-- a log has the entries of all lists, in that order
pub record Merged (lists : List (List Stamped)) (log : List Entry) : Type 0 where
  pub order : List Stamped
  pub same : IsPermutation (flat_map (λ list. list) lists) order
  pub in_order : AllPairs IsInOrder order
  pub log_is : log ≡ entries order
