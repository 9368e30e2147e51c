-- Logs that are made of the parts of their agents.
use Rattle.std.proofs.Common.{◌≡◌, ◌≤◌, ℕ, suc, ◌-◌, List, length, sym, ap, ◌∙◌, arith}
use Rattle.std.specs.Prelude.{Contains, Some, option_map, slice_get}
use Rattle.std.proofs.lemmas.List.Elements.{All-contains}
use Rattle.std.proofs.lemmas.Option.{get_or_from_slice_get, slice_get-map}
use Rattle.mp_messages.specs.declared.history.Entry.{Entry}
use Rattle.mp_messages.specs.History.{agent_of, part}
use Rattle.mp_machine.specs.AgentRecord.{AgentRecord, new_record}
use Rattle.mp_task.specs.AgentTask.{AgentTask}
use Rattle.mp_world.specs.Logs.{HasDone, IsLog}
use Rattle.mp_world.specs.Team.{Team}
use Rattle.mp_world.specs.World.{AreNumbered, World, start_world}
use Rattle.mp_world.proofs.Agents.{agent_there, member_of, task_there}
use Rattle.mp_world.proofs.Mail.{agent_of_team}
use Rattle.mp_world.proofs.RunOfLog.{log_has_run}
use Rattle.mp_world.proofs.Stepping.{start_is_team, team_size}
use Rattle.mp_logs.specs.Parts.{IsLogOfParts, IsOwned, IsTeamHistory}

module _ (team : Team) (numbered : AreNumbered team.tasks) where
  open team use {tasks, value, limit}

  abbrev start : World
  start = start_world team

  -- the numbers of the team are those of its tasks
  pub task_of : (agent : ℕ) → 1 ≤ agent → agent ≤ length tasks → (t : AgentTask) × Contains tasks t × (agent ≡ t.me)
  task_of agent low high =
      let of_team = start_is_team team in
      let many = team_size tasks start of_team in
      let found = agent_there start agent (record { from_1 = low; at_most = omega arith }) in
      let of = member_of tasks numbered start of_team agent found.0 found.1 in
      (found.0.task, of.task, sym of.me)

  pub number_of : (t : AgentTask) → Contains tasks t → (1 ≤ t.me) × (t.me ≤ length tasks)
  number_of t here =
      let of_team = start_is_team team in
      let many = team_size tasks start of_team in
      let found = task_there tasks numbered start of_team t here in
      let is = agent_of_team start t.me found.0 found.1 in
      let high = is.at_most in
      (is.from_1, omega arith)

  -- a task stands at the place of its number
  pub task_at : (t : AgentTask) → Contains tasks t → slice_get tasks (t.me - 1) ≡ Some t
  task_at t (k, inside, here) =
      let of_team = start_is_team team in
      let many = team_size tasks start of_team in
      let found = agent_there start (suc k) (record { from_1 = omega arith; at_most = omega arith }) in
      let of = member_of tasks numbered start of_team (suc k) found.0 found.1 in
      let task : slice_get tasks k ≡ Some found.0.task =
      ap (λ ts. slice_get ts k) (sym of_team.team) ∙ slice_get-map (λ x. x.task) start.agents k
      ∙ ap (option_map (λ (x : AgentRecord). x.task)) found.1
      in
      let same : found.0.task ≡ t = sym (get_or_from_slice_get tasks k found.0.task t task) ∙ here in
      let mine : t.me ≡ suc k = ap (λ u. u.me) (sym same) ∙ of.me in
      let place : t.me - 1 ≡ k = omega arith in
      ap (slice_get tasks) place ∙ task ∙ ap Some same

  -- the entries of a log are owned
  pub log_owned : (log : List Entry) → IsLog team log → (e : Entry) → Contains log e → IsOwned (length tasks) e
  log_owned log is e here =
      let own = is.of_team e here in
      let number = number_of own.0 own.1 in
      let low = number.0 in
      let high = number.1 in
      let same = own.2 in
      (omega arith, omega arith)

  module _ (log : List Entry) (record_of : AgentTask → AgentRecord) (history : IsTeamHistory tasks log)
      (done : (t : AgentTask) → Contains tasks t
      → HasDone (value t) (new_record t (value t) limit) (part log t.me) (record_of t)) where
    pub owner_is : (e : Entry) → Contains log e → (t : AgentTask) × Contains tasks t × (agent_of e ≡ t.me)
    owner_is e here =
        let own = All-contains (IsOwned (length tasks)) log e history.owned here in
        task_of (agent_of e) own.0 own.1

    abbrev pub log_made : IsLog team log
    log_made = record {
      history = history.history;
      of_team = owner_is;
      parts = λ t here. record { last = record_of t; done = done t here };
    }

    pub log_of_parts : IsLogOfParts team log record_of
    log_of_parts =
        let run = log_has_run team numbered log log_made in
        record { is_log = log_made; last = run.last; runs = run.runs; agents = run.agents; mail = run.mail }
