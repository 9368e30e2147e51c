-- What a caller sees of an entry.
use Rattle.std.specs.Prelude.{◌≡◌}
use Rattle.mp_store.specs.declared.entry.Entry.{Entry}
use Rattle.mp_store.specs.declared.entry.EntryView.{EntryView}
use Rattle.mp_store.specs.declared.entry.KeyView.{KeyView}
use Rattle.mp_store.specs.declared.key.Key.{Key}

-- the key whose parts are lent
abbrev pub seen_key : KeyView → Key
seen_key view = record { publics = view.publics; mine = view.mine; tags = view.tags.now }

pub record Shows (view : EntryView) (e : Entry Key) : Type 0 where
  pub key : seen_key view.key ≡ e.key
  pub g : view.g ≡ e.g
  pub h : view.h ≡ e.h
  pub origin : view.origin ≡ e.origin
