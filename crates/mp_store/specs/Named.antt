-- A record whose keys stand for other ones, with those in their place.
use Rattle.std.specs.Prelude.{map}
use Rattle.mp_store.specs.declared.entry.Entry.{Entry}
use Rattle.mp_store.specs.Record.{Record}

module _ {A K : Type 0} (name : A → K) where
  abbrev pub named_entry : Entry A → Entry K
  named_entry e =
      record { key = name e.key; g = e.g; h = e.h; mark = e.mark; origin = e.origin; goal = e.goal }

  abbrev pub named : Record A → Record K
  named r = record { entries = map named_entry r.entries; sent = r.sent }
