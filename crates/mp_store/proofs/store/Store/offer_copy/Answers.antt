use Rattle.std.proofs.Common.{length, sym, ap, ◌∙◌}
use Rattle.mp_store.specs.Keys.{same_key}
use Rattle.mp_store.specs.Minima.{best}
use Rattle.mp_store.specs.Record.{new_entry}
use Rattle.mp_store.proofs.Entries.{have_offered, same_keys}
use Rattle.mp_store.proofs.KeyPlaces.{no_best}
use Rattle.mp_store.proofs.Offering.{offered_known}
use Rattle.mp_store.proofs.store.Store.offer_copy.Goals as goal

pub invariant_of-self : goal.invariant_of-self
invariant_of-self c =
    let s = c.self.inside in
    same_keys s.keys s.numbers c.offer.new.self c.self.invariant.count c.self.invariant.once c.offer.ensures.keys c.offer.ensures.keyed
    (have_offered (length s.keys) s.numbers c.self.invariant.have c.offer.new.self
    (new_entry c.in-Some.place c.args.g c.args.h c.args.origin c.args.goal) c.offer.result c.offer.ensures.offered c.offer.ensures.err)

pub keep_new-requires-clause-new : goal.keep_new-requires-clause-new
keep_new-requires-clause-new c =
    let s = c.self.inside in
    ap (best same_key c.args.key.now) (sym c.self.view_is) ∙ no_best s.keys c.args.key.now s.numbers.kept c.self.invariant.keyed c.in-None.ensures.none

pub returns-in-Some-clause-offered : goal.returns-in-Some-clause-offered
returns-in-Some-clause-offered c =
    let s = c.self.inside in
    let at = c.in-Some.ensures.found in
    offered_known c.args.g c.args.h c.args.origin c.args.goal s.keys c.self.invariant.once s.numbers.kept c.self.invariant.keyed
    c.args.key.now c.in-Some.place at.0 at.1 c.args.self.now c.self.view_is c.offer.result c.offer.new.self.kept c.offer.ensures.offered
