use Rattle.std.proofs.Common.{sym, ◌∙◌}
use Rattle.mp_schedule.proofs.FewRounds.{few_rounds, same_back}
use Rattle.mp_schedule.proofs.Goes.{team_again}
use Rattle.mp_schedule.proofs.Keeping.{a_task, is_run_of}
use Rattle.mp_schedule.specs.TeamRun.{team_in}
use Rattle.mp_schedule.proofs.team.World.round_robin.Goals as goal

pub rounds-requires-clause-works : goal.rounds-requires-clause-works
rounds-requires-clause-works g c = sym c.has_failed.ensures ∙ c.if-has_failed.false

pub returns-clause-laws : goal.returns-clause-laws
returns-clause-laws g c =
    c.runs_keep_laws.ensures.laws c.rounds.new.self c.comes_from_a_run.ensures.team
    (c.comes_from_a_run.ensures.run
    (c.in_ok-rounds.ensures.done.kept ∙ sym c.has_failed.ensures ∙ c.if-has_failed.false))

pub returns-clause-few : goal.returns-clause-few
returns-clause-few g c =
    let value = g.H.Heuristic.value in
    let a = c.args.self.now in
    let b = c.rounds.new.self in
    let done = c.in_ok-rounds.ensures.done in
    let team = c.comes_from_a_run.ensures.team in
    let run = c.comes_from_a_run.ensures.run (done.kept ∙ sym c.has_failed.ensures ∙ c.if-has_failed.false) in
    let old = team_again b a (same_back a b done.same) team in
    let some = a_task a.tasks old.from_1 in
    few_rounds value c.agents-count.result a b c.agents-count.ensures.tasks team run c.has_few_events.ensures done
    (λ first there. c.snapshots_are_events.ensures (team_in value b) b.schedule b.world first (is_run_of value b team run) there)
    (λ rounds first goes there room. c.round_robin_takes_few_rounds.ensures (team_in value a) some.0 a.schedule rounds a.world b.world first
    some.1 (is_run_of value a old c.has_run.ensures) goes there room)
