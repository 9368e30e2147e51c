use Rattle.std.proofs.Common.{◌<◌, eqb, length, sym, ap, ◌∙◌}
use Rattle.mp_store.specs.Keys.{same_key}
use Rattle.mp_store.specs.Minima.{best}
use Rattle.mp_store.specs.Named.{named}
use Rattle.mp_store.specs.KeyRows.{key_at}
use Rattle.mp_store.proofs.KeyPlaces.{apart, no_best}
use Rattle.mp_store.proofs.Naming.{best-named}
use Rattle.mp_store.proofs.store.Store.best.Goals as goal

pub returns-in-Some : goal.returns-in-Some
returns-in-Some c =
    let s = c.self.inside in
    let keys = s.keys in
    let at = c.in-Some.ensures.found in
    c.best.ensures
    ∙ sym (best-named (key_at keys) eqb same_key (λ k. k < length keys) (apart keys c.self.invariant.once) c.in-Some.place at.0 s.numbers.kept c.self.invariant.keyed)
    ∙ ap (λ k. best same_key k (named (key_at keys) s.numbers.kept)) at.1
    ∙ ap (best same_key c.args.key.now) c.self.view_is

pub returns-in-None : goal.returns-in-None
returns-in-None c =
    let s = c.self.inside in
    sym (no_best s.keys c.args.key.now s.numbers.kept c.self.invariant.keyed c.in-None.ensures.none)
    ∙ ap (best same_key c.args.key.now) c.self.view_is
