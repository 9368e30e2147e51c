use Rattle.std.proofs.Common.{◌≡◌, ap, length, sym, subst, ◌∙◌}
use Rattle.mp_schedule.proofs.Keeping.{is_run_of}
use Rattle.mp_schedule.proofs.MoreEvents.{less_room}
use Rattle.mp_schedule.proofs.Onward.{leads_itself, round_on, rounds_over}
use Rattle.mp_schedule.specs.TeamRun.{HasDone, team_in}
use Rattle.mp_world.specs.RoundRobin.{Round, Rounds}
use Rattle.mp_schedule.proofs.team.World.rounds.Goals as goal

pub rounds-init : goal.rounds-init
rounds-init g c = leads_itself (Rounds g.H.Heuristic.value c.args.agents) c.args.self.now

pub returns-then-over-clause-done : goal.returns-then-over-clause-done
returns-then-over-clause-done g c =
    rounds_over g.H.Heuristic.value c.args.agents c.args.self.now c.rounds.self c.rounds.invariant
    (sym c.over.ensures ∙ c.if-over.true)

pub rounds-preserved : goal.rounds-preserved
rounds-preserved g c =
    round_on g.H.Heuristic.value c.args.agents c.args.self.now c.rounds.self c.round.new.self c.rounds.invariant
    (sym c.over.ensures ∙ c.if-over.false)
    c.in_ok-round.ensures.done

pub rounds-smaller : goal.rounds-smaller
rounds-smaller g c =
    let value = g.H.Heuristic.value in
    let r = c.rounds.self in
    let s = c.round.new.self in
    let team = c.comes_from_a_run.ensures.team in
    let run = c.comes_from_a_run.ensures.run (c.rounds.invariant.kept ∙ c.requires.works) in
    let many : c.args.agents ≡ length r.tasks = c.requires.agents ∙ ap length (sym c.rounds.invariant.same.tasks) in
    let done = subst (λ n. HasDone (Round value n) r s) many c.in_ok-round.ensures.done in
    less_room value r s team run c.has_few_events.ensures done
    (λ first there. c.snapshots_are_events.ensures (team_in value r) r.schedule r.world first (is_run_of value r team run) there)
    (λ first there room. c.rounds_do_something.ensures (team_in value r) r.schedule done.events r.world s.world first
    (is_run_of value r team run) (sym c.over.ensures ∙ c.if-over.false) there room done.done)
