use Rattle.std.proofs.Common.{length, subst}
use Rattle.mp_store.specs.Keys.{same_key}
use Rattle.mp_store.specs.Laws.{IsSound}
use Rattle.mp_store.specs.KeyRows.{key_at}
use Rattle.mp_store.proofs.KeyPlaces.{apart}
use Rattle.mp_store.proofs.Naming.{sound-named}
use Rattle.mp_store.proofs.store.Store.count.Goals as goal

pub returns-clause-sound : goal.returns-clause-sound
returns-clause-sound c =
    let s = c.self.inside in
    subst (IsSound same_key) c.self.view_is
    (sound-named (key_at s.keys) same_key (length s.keys) (apart s.keys c.self.invariant.once) s.numbers.kept c.self.invariant.keyed c.count.ensures.sound)
