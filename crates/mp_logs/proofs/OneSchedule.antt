-- Logs of one schedule have the same parts.
use Rattle.std.proofs.Common.{◌≡◌, ℕ, Bool, true, false, ◌&&◌, List, [], length, refl, sym, ap, ◌∙◌, arith}
use Rattle.std.specs.Prelude.{Contains, nat_le, ◌==◌}
use Rattle.std.proofs.lemmas.Bool.{and_parts, eqb-true, false≢true, le-leb, leb-true}
use Rattle.std.proofs.lemmas.List.Elements.{All-contains_itself, All-weaker}
use Rattle.mp_messages.specs.declared.history.Entry.{Entry}
use Rattle.mp_messages.specs.History.{agent_of, part, received, schedule, sent}
use Rattle.mp_world.specs.Logs.{IsLog, log_of_run}
use Rattle.mp_world.specs.Team.{Team}
use Rattle.mp_world.specs.World.{AreNumbered}
use Rattle.mp_world.proofs.RunOfLog.{log_has_run}
use Rattle.mp_world.proofs.Runs.{run_of_team}
use Rattle.mp_world.proofs.Stepping.{team_size}
use Rattle.mp_logs.specs.Alike.{AreAlike}
use Rattle.mp_logs.proofs.Made.{log_owned}
use Rattle.mp_logs.proofs.Pieces.{no_part, received_in_part, sent_in_part}

module _ (team : Team) (numbered : AreNumbered team.tasks) where
  open team use {tasks}

  -- a number is one of the team
  abbrev in_team : ℕ → Bool
  in_team agent = nat_le 1 agent && nat_le agent (length tasks)

  module _ (log : List Entry) (is : IsLog team log) where
    abbrev run_log : List Entry
    run_log = log_of_run team (schedule log)

    in_run : (agent : ℕ) → in_team agent ≡ true → part run_log agent ≡ part log agent
    in_run agent test =
        let run = log_has_run team numbered log is in
        let many = team_size tasks run.last (run_of_team team (schedule log) run.last run.runs) in
        let both = and_parts (nat_le 1 agent) (nat_le agent (length tasks)) test in
        let low = leb-true 1 agent both.0 in
        let high = leb-true agent (length tasks) both.1 in
        run.same_parts agent (record { from_1 = low; at_most = omega arith })

    -- an agent outside the team has no entry
    outside : (agent : ℕ) → in_team agent ≡ false → part log agent ≡ []
    outside agent test =
        no_part agent log (All-weaker (Contains log) (λ e. (agent_of e == agent) ≡ false)
        (λ e here. other e here (agent_of e == agent) refl) log (All-contains_itself log))
      where
        other : (e : Entry) → Contains log e → (b : Bool) → (agent_of e == agent) ≡ b → b ≡ false
        other e here true same =
            let own = log_owned team numbered log is e here in
            let mine : agent_of e ≡ agent = eqb-true (agent_of e) agent same in
            let low = own.0 in
            let high = own.1 in
            let first : nat_le 1 agent ≡ true = le-leb 1 agent (omega arith) in
            let last : nat_le agent (length tasks) ≡ true = le-leb agent (length tasks) (omega arith) in
            let inside : in_team agent ≡ true = λ i. first i && last i in
            absurd (false≢true (sym test ∙ inside))
        other e here false same = refl

  module _ (log other : List Entry) (is : IsLog team log) (also : IsLog team other)
      (same : schedule other ≡ schedule log) where
    parts_alike : (agent : ℕ) → part other agent ≡ part log agent
    parts_alike agent = by (in_team agent) refl
      where
        by : (b : Bool) → in_team agent ≡ b → part other agent ≡ part log agent
        by true test =
            sym (in_run other also agent test)
            ∙ ap (λ events. part (log_of_run team events) agent) same
            ∙ in_run log is agent test
        by false test = outside other also agent test ∙ sym (outside log is agent test)

    pub logs_alike : AreAlike log other
    logs_alike = record {
      schedules = same;
      parts = parts_alike;
      puts = λ from to.
          sent_in_part from to other ∙ ap (sent from to) (parts_alike from) ∙ sym (sent_in_part from to log);
      receipts = λ from to.
          received_in_part from to other ∙ ap (received from to) (parts_alike to)
          ∙ sym (received_in_part from to log);
    }
