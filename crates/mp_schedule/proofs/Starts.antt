-- New machines make a team at the start.
use Rattle.std.proofs.Common.{◌≡◌, ◌≤◌, ℕ, false, List, [], ◌∷◌, length, map, replicate, refl}
use Rattle.std.proofs.Common.{sym, ap, subst, ◌∙◌}
use Rattle.std.specs.Prelude.{All}
use Rattle.std.proofs.lemmas.List.{length-map}
use Rattle.std.proofs.lemmas.List.Elements.{All-head, All-tail, All-weaker}
use Rattle.mp_runs.proofs.Runs.{run-none}
use Rattle.mp_messages.specs.declared.history.Entry.{Entry}
use Rattle.mp_messages.specs.History.{schedule as schedule_of}
use Rattle.mp_machine.specs.AgentRecord.{new_record}
use Rattle.mp_machine.specs.Machine.{AgentMachine}
use Rattle.mp_world.specs.Events.{after_event}
use Rattle.mp_world.specs.Values.{Values}
use Rattle.mp_world.specs.World.{start_world}
use Rattle.mp_schedule.specs.Machines.{AreNew, AreOneRun, IsFree, limit_of, new_machine, tasks_of, team_run}
use Rattle.mp_schedule.specs.TeamRun.{IsLogged, TeamRun, start_run, team_in}
use Rattle.mp_schedule.specs.UnderWay.{Mail}
use Rattle.mp_schedule.proofs.Goes.{log_of_none}

module _ (value : Values) where
  agents_new : (limit : ℕ) (ms : List AgentMachine) → All (λ m. m ≡ new_machine value limit m.done.task) ms
      → map (λ m. m.done) ms ≡ map (λ t. new_record t (value t) limit) (tasks_of ms)
  agents_new limit [] new = refl
  agents_new limit (m ∷ ms) new =
      (λ i. (All-head (λ x. x ≡ new_machine value limit x.done.task) m ms new i).done
      ∷ agents_new limit ms (All-tail (λ x. x ≡ new_machine value limit x.done.task) m ms new) i)

  module _ (ms : List AgentMachine) (mail : Mail) (log : List Entry) (new : AreNew value ms)
      (nothing : mail ≡ replicate (length ms) (replicate (length ms) []))
      (none : log ≡ [])
    where
      abbrev first : TeamRun
      first = start_run value (limit_of ms) (tasks_of ms)

      size : length ms ≡ length (tasks_of ms)
      size = sym (length-map ms (λ m. m.done.task))

      pub starts : team_run ms mail log false ≡ first
      starts = λ i. record {
        tasks = tasks_of ms;
        limit = limit_of ms;
        schedule = schedule_of (none i);
        world = record {
          agents = agents_new (limit_of ms) ms new.new i;
          mail = (nothing ∙ ap (λ n. replicate n (replicate n [])) size) i;
        };
        log = none i;
        failed = false;
      }

      pub is_run : AreOneRun value ms mail log false
      is_run = record {
        team = record {
          tasks = new.tasks;
          most = new.most;
          from_1 = subst (λ n. 1 ≤ n) size new.from_1;
          at_most = subst (λ n. n ≤ 16) size new.at_most;
        };
        going = λ works. record {
          free = All-weaker (λ m. m ≡ new_machine value (limit_of ms) m.done.task) IsFree (λ m is. ap (λ
              (x : AgentMachine). x.stopped) is) ms new.new;
          run = subst (IsLogged value) (sym starts) (record {
            leads = run-none (after_event value) (start_world (team_in value first));
            logged = sym (log_of_none value (start_world (team_in value first)));
          });
        };
      }
