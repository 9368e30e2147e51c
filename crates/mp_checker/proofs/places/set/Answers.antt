use Rattle.std.proofs.Common.{refl}
use Rattle.mp_checker.specs.declared.facts.Facts.{Facts}
use Rattle.mp_checker.specs.At.{fact_at}
use Rattle.mp_checker.proofs.MarkLemmas.{set_true}
use Rattle.mp_checker.proofs.places.set.Goals as goal

pub returns : goal.returns
returns c =
    let new : Facts = record { known = c.atom_place.new.facts.known; marks = c.set_mark.new.marks } in
    set_true c.args.facts.now c.atom_place.new.facts new (fact_at c.args.agent c.args.args.now c.args.atom.now) c.in_ok-number.number
    c.in_ok-number.ensures.stays c.in_ok-number.ensures.place refl c.in_ok-set_mark.ensures
