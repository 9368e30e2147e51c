use Rattle.mp_store.specs.Record.{new_entry}
use Rattle.std.proofs.Common.{length, refl}
use Rattle.mp_store.proofs.Entries.{have_first, nowhere}
use Rattle.mp_store.proofs.Offering.{offered_first}
use Rattle.mp_store.proofs.store.Store.keep_new.Goals as goal

pub keep_first-requires-clause-new : goal.keep_first-requires-clause-new
keep_first-requires-clause-new c =
    let s = c.self.inside in
    nowhere s.keys c.self.invariant.once s.numbers.kept c.self.invariant.keyed c.self.invariant.have c.args.key.now c.args.self.now c.self.view_is c.requires.new

pub invariant_of-self : goal.invariant_of-self
invariant_of-self c =
    let s = c.self.inside in
    record {
      count = c.keep_first.ensures.count;
      once = c.keep_first.ensures.once;
      keyed = c.keep_first.ensures.keyed;
      have = have_first s.keys c.keep_first.new.keys c.args.key.now s.numbers c.keep_first.new.numbers
          (new_entry (length s.keys) c.args.g c.args.h c.args.origin c.args.goal) c.keep_first.result c.self.invariant.have refl
          c.keep_first.ensures.keys c.keep_first.ensures.offered c.keep_first.ensures.err;
    }

pub returns-clause-offered : goal.returns-clause-offered
returns-clause-offered c =
    let s = c.self.inside in
    offered_first c.args.g c.args.h c.args.origin c.args.goal s.keys c.keep_first.new.keys c.keep_first.ensures.once s.numbers.kept c.self.invariant.keyed
    c.args.key.now c.args.self.now c.self.view_is c.keep_first.result c.keep_first.new.numbers.kept c.keep_first.ensures.keys c.keep_first.ensures.offered
