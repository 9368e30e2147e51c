use Rattle.mp_checker.specs.declared.fact.FactNumbers.{FactNumbers}
use Rattle.mp_checker.specs.declared.facts.Facts.{Facts}
use Rattle.mp_checker.proofs.MarkLemmas.{met}
use Rattle.mp_checker.proofs.places.meet.Goals as goal

pub returns-clause-stays : goal.returns-clause-stays
returns-clause-stays c = λ absent.
    let fact : FactNumbers = record { owner = c.args.owner; symbol = c.args.symbol; objects = c.args.objects.now } in
    let new : Facts = record { known = c.add_fact.new.known; marks = c.set_mark.new.marks } in
    met c.args.facts.now new fact c.in_ok-place.place absent (c.in_ok-place.ensures.last absent) c.in_ok-place.ensures.place c.in_ok-set_mark.ensures
