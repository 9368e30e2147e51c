-- The states that an agent of MAD-A* sent: each is sent again only once it is reached at less cost.
use Rattle.std.specs.Prelude.{ℕ, Bool, ◌&&◌, nat_le, List, [], ◌∷◌, ◌++◌, length, filter_map, slice_get, Option, Some, None, if◌then◌else◌}
use Rattle.std.specs.List.{list_any}
use Rattle.std.specs.Option.{option_map_or}
use Rattle.mp_store.specs.declared.entry.Entry.{Entry}
use Rattle.mp_store.specs.Record.{Record}

module _ {K : Type 0} where
  -- the entries whose states were sent
  abbrev pub sent_entries : Record K → List (Entry K)
  sent_entries r = filter_map (slice_get r.entries) r.sent

  -- the entry of a sent number
  abbrev pub sent_entry : ℕ → Record K → Option ℕ
  sent_entry number r = slice_get r.sent number

  module _ (same : K → K → Bool) where
    -- whether a state was sent at a cost or less
    abbrev pub was_sent : K → ℕ → Record K → Bool
    was_sent key g r = list_any (λ e. same e.key key && nat_le e.g g) (sent_entries r)

    -- the sent number that the state of an entry gets, and the record with it, unless that state was
    -- sent at that cost or less
    abbrev pub sent_if_new : ℕ → Entry K → Record K → Option ℕ × Record K
    sent_if_new entry e r =
        if was_sent e.key e.g r then (None, r)
        else (Some (length r.sent), record r { sent = r.sent ++ entry ∷ [] })

    -- the same for the entry of a number
    abbrev pub mark_sent : ℕ → Record K → Option ℕ × Record K
    mark_sent entry r =
        option_map_or (λ e. sent_if_new entry e r) (slice_get r.entries entry) (None, r)
