use Rattle.std.proofs.Common.{◌≡◌, None, refl, ◌∙◌}
use Rattle.std.specs.Prelude.{Contains}
use Rattle.std.proofs.lemmas.Bool.{false≢true}
use Rattle.mp_schedule.specs.Machines.{limit_of, tasks_of}
use Rattle.mp_task.specs.AgentTask.{AgentTask}
use Rattle.mp_world.specs.Team.{team_with}
use Rattle.mp_team.proofs.Ended.{done_all, has_finished, history, numbered, record_of}
use Rattle.mp_team.proofs.NoneBad.{all_ended, ended, has_served, holds, same, served_of}
use Rattle.mp_team.proofs.ending.closed.Goals as goal

pub into_log-requires-clause-all : goal.into_log-requires-clause-all
into_log-requires-clause-all g c =
    let shared = c.args.posts.shared in
    holds g.H.Heuristic.value shared.table_id shared.key c.requires.all.0 c.args.answered c.requires.all.1 c.requires.enough

pub unreachable-requires : goal.unreachable-requires
unreachable-requires g c =
    let value = g.H.Heuristic.value in
    let shared = c.args.posts.shared in
    let ms = c.requires.all.0 in
    let all = c.requires.all.1 in
    let a = c.args.answered in
    let enough = c.requires.enough in
    let closed = c.in_ok-log.ensures in
    let log = c.in_ok-log.log in
    let none_bad : (t : AgentTask) → Contains (tasks_of ms) t
    → (served_of value shared.table_id shared.key ms a all enough t).bad ≡ None =
    λ t contains. c.no_receipt_is_bad.ensures (team_with value (limit_of ms) (tasks_of ms)) log
    (served_of value shared.table_id shared.key ms a all enough) t (record { tasks = all.new.tasks; most = all.new.most })
    (history value ms all.new a.work.nodes shared.key all.count
    (same value shared.table_id shared.key ms a all enough) log closed.legal closed.agents)
    (has_served value shared.table_id shared.key ms a all enough log closed.parts) contains in
    false≢true (c.if-not-is_ended.ensures ∙ ended value shared.table_id shared.key ms a all enough none_bad)

pub returns : goal.returns
returns g c = λ ms all.
    let value = g.H.Heuristic.value in
    let shared = c.args.posts.shared in
    let a = c.args.answered in
    let nodes = a.work.nodes in
    let view = a.work.desk.view in
    let enough = c.requires.enough in
    let closed = c.in_ok-log.ensures in
    let log = c.in_ok-log.log in
    let same_agents = same value shared.table_id shared.key ms a all enough in
    let past = history value ms all.new nodes shared.key all.count same_agents log closed.legal closed.agents in
    let none_bad : (t : AgentTask) → Contains (tasks_of ms) t
    → (served_of value shared.table_id shared.key ms a all enough t).bad ≡ None =
    λ t contains. c.no_receipt_is_bad.ensures (team_with value (limit_of ms) (tasks_of ms)) log
    (served_of value shared.table_id shared.key ms a all enough) t (record { tasks = all.new.tasks; most = all.new.most }) past
    (has_served value shared.table_id shared.key ms a all enough log closed.parts) contains in
    let over = all_ended value shared.table_id shared.key ms a all enough none_bad in
    let made = c.parts_make_a_log.ensures (team_with value (limit_of ms) (tasks_of ms)) log
    (record_of value ms all.new nodes shared.key all.count same_agents view over log closed.legal closed.parts closed.agents)
    (numbered value ms all.new nodes shared.key all.count same_agents view over log closed.legal closed.parts closed.agents)
    past
    (done_all value ms all.new nodes shared.key all.count same_agents view over log closed.legal closed.parts closed.agents)
    in
    has_finished value ms all.new nodes shared.key all.count same_agents view over log closed.legal closed.parts closed.agents
    (record { machines = c.in_ok-machines.machines; log = log }) c.in_ok-machines.ensures refl made
