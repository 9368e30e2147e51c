-- A store as the plain record that contracts see.
use Rattle.std.specs.Prelude.{◌≡◌, ◌==◌, ℕ, ◌<◌, true, All, length}
use Rattle.mp_rows.specs.Apart.{AreOnce}
use Rattle.mp_store.specs.declared.key.Key.{Key}
use Rattle.mp_store.specs.declared.store.Store.TheInside.{Inside}
use Rattle.mp_store.specs.KeyRows.{key_at, no_key}
use Rattle.mp_store.specs.Named.{named}
use Rattle.mp_store.specs.Record.{Record, is_known}

abbrev pub store_record : Inside → Record Key
store_record s = named (key_at s.keys) s.numbers.kept

-- each of so many keys has an entry
abbrev pub HaveEntries : ℕ → Record ℕ → Type 0
HaveEntries keys r = (k : ℕ) → k < keys → (g : ℕ) × (is_known ◌==◌ k g r.entries ≡ true)

pub record IsStore (s : Inside) : Type 0 where
  pub count : length s.keys ≡ s.numbers.keys
  pub once : AreOnce no_key s.keys
  pub keyed : All (λ e. e.key < length s.keys) s.numbers.kept.entries
  pub have : HaveEntries (length s.keys) s.numbers.kept
