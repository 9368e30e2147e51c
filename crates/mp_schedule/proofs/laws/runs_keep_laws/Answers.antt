use Rattle.std.proofs.Common.{refl, sym, subst}
use Rattle.mp_world.specs.Logs.{IsLog}
use Rattle.mp_world.proofs.Agents.{agree_numbered}
use Rattle.mp_world.proofs.Runs.{run_of_team}
use Rattle.mp_schedule.specs.TeamRun.{team_in}
use Rattle.mp_schedule.proofs.Keeping.{a_task, is_run_of}
use Rattle.mp_schedule.proofs.laws.runs_keep_laws.Goals as goal

pub returns-clause-laws : goal.returns-clause-laws
returns-clause-laws g c = λ r team run.
    let value = g.H.Heuristic.value in
    let it = team_in value r in
    let some = a_task r.tasks team.from_1 in
    let ran = is_run_of value r team run in
    record {
      is_log = subst (IsLog it) (sym run.logged)
          (c.runs_have_logs.ensures.log it r.schedule r.world
          (agree_numbered r.tasks team.tasks.agree) run.leads);
      states = c.states_stay_sound.ensures.runs it r.schedule r.world ran;
      paths = c.entries_are_reached.ensures.runs it r.schedule r.world ran;
      estimates = c.estimates_and_flags_are_right.ensures.runs it r.schedule r.world refl ran;
      explored = c.teams_stay_explored.ensures.runs it r.schedule r.world refl ran;
      witness = λ plan solves.
          c.plans_leave_a_witness_in_runs.ensures.shown it some.0 r.schedule r.world plan refl some.1 ran solves;
      cuts = λ k from_1. c.cuts_are_worlds.ensures it k r.schedule r.world team.tasks from_1 run.leads;
      verdict = λ first verdict there given.
          c.verdicts_are_right.ensures it r.schedule r.world first verdict refl ran there given;
      answer = λ over. c.answers_are_right.ensures it some.0 r.schedule r.world refl some.1 ran over;
    }

pub returns-clause-one : goal.returns-clause-one
returns-clause-one g c = λ r agent next team run leads.
    let value = g.H.Heuristic.value in
    c.expansions_are_not_wasted.ensures.one value r.tasks r.world next agent team.tasks
    (run_of_team (team_in value r) r.schedule r.world run.leads)
    (c.states_stay_sound.ensures.runs (team_in value r) r.schedule r.world (is_run_of value r team run)) leads
