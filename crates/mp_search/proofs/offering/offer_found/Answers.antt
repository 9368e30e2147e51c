use Rattle.std.proofs.Common.{sym, ◌∙◌}
use Rattle.mp_search.specs.StateKeys.{reached_state}
use Rattle.mp_search.proofs.KeyedStates.{all_inside}
use Rattle.mp_search.proofs.KnownStates.{known_refused}
use Rattle.mp_search.proofs.offering.offer_found.Goals as goal

pub is_as_cheap-requires : goal.is_as_cheap-requires
is_as_cheap-requires c = all_inside (reached_state c.args.state.now) c.args.states.now.kept c.args.found c.requires.found

pub returns-then-is_as_cheap-clause-offered : goal.returns-then-is_as_cheap-clause-offered
returns-then-is_as_cheap-clause-offered c =
    let s = reached_state c.args.state.now in
    known_refused c.args.task.now s c.args.arrival.g c.args.arrival.origin c.args.states.now.kept (sym (c.is_as_cheap.ensures s c.requires.found) ∙ c.if-is_as_cheap.true) c.args.arrival.h
