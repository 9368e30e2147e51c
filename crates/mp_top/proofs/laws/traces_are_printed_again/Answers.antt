use Rattle.mp_top.proofs.OfTwo.{printed_again, trace_accepted}
use Rattle.mp_top.proofs.laws.traces_are_printed_again.Goals as goal

pub returns-clause-accepted : goal.returns-clause-accepted
returns-clause-accepted c =
    trace_accepted c.traces_are_replayed.ensures.accepted
    (record { one = c.one_team.ensures.one; held = c.one_team.ensures.held; holds = c.one_team.ensures.holds; made = c.one_team.ensures.made })
    c.one_first.ensures.none

pub returns-clause-same : goal.returns-clause-same
returns-clause-same c =
    printed_again c.traces_are_replayed.ensures.same c.traces_are_replayed.ensures.in_turn
    (record { one = c.one_team.ensures.one; held = c.one_team.ensures.held; holds = c.one_team.ensures.holds; made = c.one_team.ensures.made })
