-- What one agent of MAD-A* (Nissim and Brafman 2014) keeps of its search: each state that it met,
-- with what it cost to reach it, as best-first search does (Hart, Nilsson and Raphael 1968), and the
-- states that it sent to others. A state is told by its key, and a test says which keys are the same.
use Rattle.std.specs.Prelude.{ℕ, ◌+◌, Bool, true, false, ◌&&◌, nat_le, List, [], ◌∷◌, ◌++◌, length, map, if◌then◌else◌}
use Rattle.std.specs.List.{list_any}
use Rattle.mp_store.specs.declared.entry.Entry.{Entry}
use Rattle.mp_store.specs.declared.entry.Mark.{Mark}
use Rattle.mp_store.specs.declared.entry.Mark.TheVariants.{Open, Expanded, Replaced}
use Rattle.mp_store.specs.declared.entry.Origin.{Origin}
use Rattle.mp_store.specs.declared.entry.Offer.{Offer}
use Rattle.mp_store.specs.declared.entry.Offer.TheVariants.{Kept, Worse}

pub record Record (K : Type 0) : Type 0 where
  -- all entries in the order in which they were kept; the first has number 0
  pub entries : List (Entry K)
  -- the numbers of the entries whose states were sent, in the order of sending
  pub sent : List ℕ

-- nothing is kept or sent yet
abbrev pub empty : {K : Type 0} → Record K
empty = record { entries = []; sent = [] }

-- an entry of a state that is just reached
abbrev pub new_entry : {K : Type 0} → K → ℕ → ℕ → Origin → Bool → Entry K
new_entry key g h origin goal =
    record { key = key; g = g; h = h; mark = Open; origin = origin; goal = goal }

-- cost and estimate together: what a plan through the entry costs at least
abbrev pub f : {K : Type 0} → Entry K → ℕ
f e = e.g + e.h

-- whether an entry is still to be expanded
abbrev pub is_open : Mark → Bool
is_open Open = true
is_open Expanded = false
is_open Replaced = false

module _ {K : Type 0} (same : K → K → Bool) where
  -- whether some entry of a key costs g or less
  abbrev pub is_known : K → ℕ → List (Entry K) → Bool
  is_known key g entries = list_any (λ e. same e.key key && nat_le e.g g) entries

  -- an entry when a cheaper one of a key comes: open it is no longer, if the key is its own
  abbrev pub gives_way : K → Entry K → Entry K
  gives_way key e = if same e.key key && is_open e.mark then record e { mark = Replaced } else e

  -- the record with one more entry, to which older ones of its key give way
  abbrev pub kept : Entry K → Record K → Record K
  kept new r = record r { entries = map (gives_way new.key) r.entries ++ new ∷ [] }

  -- The keep rule: a state that is offered is worse where an entry of it costs as much or less.
  -- Otherwise it is kept, also where an entry of it was expanded before. The answer, and the record
  -- after it.
  abbrev pub offered : Entry K → Record K → Offer × Record K
  offered new r =
      if is_known new.key new.g r.entries then (Worse, r)
      else (Kept (length r.entries), kept new r)
