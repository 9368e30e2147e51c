use Rattle.mp_store.proofs.Entries.{have_offered, same_keys}
use Rattle.std.proofs.Common.{◌≡◌, ◌<◌, length, Some, Option, refl, sym, ap, subst, ◌∙◌, arith}
use Rattle.std.specs.Prelude.{IfOk, IsSomeAnd, option_map, slice_get}
use Rattle.std.proofs.lemmas.Option.{slice_get-map}
use Rattle.mp_store.specs.declared.entry.Entry.{Entry}
use Rattle.mp_store.specs.declared.key.Key.{Key}
use Rattle.mp_store.specs.Keys.{same_key}
use Rattle.mp_store.specs.KeyRows.{key_at}
use Rattle.mp_store.specs.Named.{named, named_entry}
use Rattle.mp_store.specs.Record.{Record, new_entry, offered}
use Rattle.mp_store.proofs.Offering.{offered_known}
use Rattle.mp_store.proofs.store.Store.offer_again.Goals as goal

pub invariant_of-self : goal.invariant_of-self
invariant_of-self c =
    let s = c.self.inside in
    same_keys s.keys s.numbers c.offer.new.self c.self.invariant.count c.self.invariant.once c.offer.ensures.keys c.offer.ensures.keyed
    (have_offered (length s.keys) s.numbers c.self.invariant.have c.offer.new.self
    (new_entry c.entry.result.now.key c.args.g c.args.h c.args.origin c.args.goal) c.offer.result c.offer.ensures.offered c.offer.ensures.err)

pub returns-clause-offered : goal.returns-clause-offered
returns-clause-offered c =
    let s = c.self.inside in
    let name = key_at s.keys in
    let e = c.entry.result.now in
    let inside : e.key < length s.keys = let below = c.entry.ensures.key in let count = c.self.invariant.count in omega arith in
    let at : Some (named_entry name e) ≡ slice_get c.args.self.now.entries c.args.entry =
    ap (option_map (named_entry name)) (sym c.entry.ensures.entry)
    ∙ sym (slice_get-map (named_entry name) s.numbers.kept.entries c.args.entry)
    ∙ ap (λ (r : Record Key). slice_get r.entries c.args.entry) c.self.view_is
    in
    subst (λ (o : Option (Entry Key)). IsSomeAnd o (λ x. IfOk c.offer.result (λ answer. (answer, named name c.offer.new.self.kept)
    ≡ offered same_key (new_entry x.key c.args.g c.args.h c.args.origin c.args.goal) c.args.self.now))) at
    (offered_known c.args.g c.args.h c.args.origin c.args.goal s.keys c.self.invariant.once s.numbers.kept c.self.invariant.keyed
    (name e.key) e.key inside refl c.args.self.now c.self.view_is c.offer.result c.offer.new.self.kept c.offer.ensures.offered)
