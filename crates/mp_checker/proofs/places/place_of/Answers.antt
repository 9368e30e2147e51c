use Rattle.std.proofs.Common.{sym, ap, ◌∙◌}
use Rattle.std.specs.Option.{is_some}
use Rattle.mp_checker.proofs.places.place_of.Goals as goal

pub returns-in-None-clause-stays : goal.returns-in-None-clause-stays
returns-in-None-clause-stays c = c.meet.ensures.stays (sym c.get_index_of.ensures.found ∙ ap is_some c.in-None.is)
