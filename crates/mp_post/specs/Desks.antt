-- Desks, as contracts see them.
use Rattle.std.specs.Prelude.{◌≡◌, ℕ, ◌-◌, Bool, List, length, map, slice_set, Some}
use Rattle.std.specs.Option.{is_some}
use Rattle.atomic_table.specs.Seated.{TableId}
use Rattle.mp_stamps.specs.declared.stamped.Stamped.{Stamped}
use Rattle.mp_post_rule.specs.Views.{lists_of, party_at}
use Rattle.mp_post_rule.specs.declared.view.Party.{Party}
use Rattle.mp_post_rule.specs.declared.view.View.{View}

-- a desk: at which table it is, and what it knows there
pub record SeenDesk : Type 0 where
  pub table : TableId
  pub view : View

-- a desk has the lists of a view, an empty one for each party that another desk holds, and a mark for each party
-- that it holds
abbrev pub HasLists : List (List Stamped) → List Bool → View → Type 0
HasLists lists held v = (lists ≡ lists_of v) × (held ≡ map is_some v.parties)

-- a desk holds a party
abbrev pub HoldsParty : ℕ → View → Type 0
HoldsParty agent v = (p : Party) × (party_at v agent ≡ Some p)

-- the list of a party that it holds
abbrev pub HasList : ℕ → List Stamped → View → Type 0
HasList agent list v = (p : Party) × (party_at v agent ≡ Some p) × (list ≡ p.list)

-- of its parties one has this list now, and the others are as they were
abbrev pub HasNewList : ℕ → List Stamped → View → View → Type 0
HasNewList agent list v w =
    (p : Party) × (w.parties ≡ slice_set v.parties (agent - 1) (Some p)) × (list ≡ p.list)

-- a desk is at the table of the posts of so many agents
pub record IsDeskOf (table : TableId) (agents : ℕ) (d : SeenDesk) : Type 0 where
  pub same : d.table ≡ table
  pub many : length d.view.parties ≡ agents
