-- New machines for the tasks of a team, and their turns until all have ended.
use Rattle.std.proofs.Common.{◌≡◌, ◌≤◌, ℕ, false, List, [], ◌∷◌, ◌++◌, length, refl}
use Rattle.std.proofs.Common.{sym, ap, subst, ◌∙◌, arith}
use Rattle.std.specs.Prelude.{slice_index_or}
use Rattle.std.proofs.lemmas.List.{length-map}
use Rattle.std.proofs.lemmas.List.Elements.{All-map}
use Rattle.mp_task.specs.AgentTask.{AgentTask}
use Rattle.mp_machine.specs.Machine.{AgentMachine}
use Rattle.mp_messages.specs.declared.history.Event.{Event}
use Rattle.mp_world.specs.RoundRobin.{IsRoundRobin}
use Rattle.mp_world.specs.Team.{AreTeamTasks, most_expansions, team_with}
use Rattle.mp_world.specs.Values.{Values}
use Rattle.mp_world.specs.World.{start_world}
use Rattle.mp_schedule.specs.Machines.{AreNew, limit_of, new_machine, tasks_of}
use Rattle.mp_schedule.specs.TeamRun.{HasDone, IsLogged, MayRun, TeamRun, start_run, team_in}
use Rattle.mp_solve.specs.Ended.{HasDoneAll, HasEnded}
use Rattle.mp_solve.specs.Machines.{new_machines}

module _ (value : Values) (limit : ℕ) where
  pub new_tasks : (ts : List AgentTask) → tasks_of (new_machines value limit ts) ≡ ts
  new_tasks [] = refl
  new_tasks (t ∷ ts) = ap (λ us. t ∷ us) (new_tasks ts)

  pub new_limit : (ts : List AgentTask) → 1 ≤ length ts → limit_of (new_machines value limit ts) ≡ limit
  new_limit [] some = absurd (omega arith)
  new_limit (t ∷ ts) some = refl

  module _ (ts : List AgentTask) (some : 1 ≤ length ts) (ms : List AgentMachine)
      (are : ms ≡ new_machines value limit ts)
    where
      -- they may run
      pub are_new : length ts ≤ 16 → limit ≤ most_expansions → AreTeamTasks ts → AreNew value ms
      are_new few few_entries team_tasks =
          let made = new_machines value limit ts in
          let size : length made ≡ length ts = length-map ts (new_machine value limit) in
          subst (AreNew value) (sym are) (record {
            new = All-map (λ m. m ≡ new_machine value (limit_of made) m.done.task) (new_machine value limit) ts
                (λ k d inside. ap (λ n. new_machine value n (slice_index_or ts k d)) (sym (new_limit ts some)));
            tasks = subst AreTeamTasks (sym (new_tasks ts)) team_tasks;
            most = subst (λ n. n ≤ most_expansions) (sym (new_limit ts some)) few_entries;
            from_1 = subst (λ n. 1 ≤ n) (sym size) some;
            at_most = subst (λ n. n ≤ 16) (sym size) few;
          })

      pub starts : (made : TeamRun) → made ≡ start_run value (limit_of ms) (tasks_of ms) → made ≡ start_run value limit ts
      starts made start =
          let tasks : tasks_of ms ≡ ts = ap tasks_of are ∙ new_tasks ts in
          let limits : limit_of ms ≡ limit = ap limit_of are ∙ new_limit ts some in
          start ∙ (λ i. start_run value (limits i) (tasks i))

module _ (value : Values) (limit : ℕ) (ts : List AgentTask) where
  -- they have done nothing yet
  pub has_begun : (made : TeamRun) → made ≡ start_run value limit ts → MayRun made → (made.failed ≡ false → IsLogged value made)
      → HasDoneAll (team_with value limit ts) [] made
  has_begun made start team runs =
      let free : made.failed ≡ false = ap (λ (r : TeamRun). r.failed) start in
      record {
        tasks_are = ap (λ (r : TeamRun). r.tasks) start;
        limit_is = ap (λ (r : TeamRun). r.limit) start;
        team = team;
        free = free;
        run = runs free;
        schedule_is = ap (λ (r : TeamRun). r.schedule) start;
      }

  -- from the start they have taken turns until all have ended
  pub has_ended : (old new : TeamRun) → old ≡ start_run value limit ts → HasDone (IsRoundRobin value) old new → MayRun new
      → (new.failed ≡ false → IsLogged value new) → HasEnded (team_with value limit ts) new
  has_ended old new begun done team runs =
      let free : new.failed ≡ false = done.kept ∙ ap (λ (r : TeamRun). r.failed) begun in
      let events : new.schedule ≡ done.events =
      done.appended ∙ ap (λ (r : TeamRun). r.schedule ++ done.events) begun in
      record {
        done = record {
          tasks_are = done.same.tasks ∙ ap (λ (r : TeamRun). r.tasks) begun;
          limit_is = done.same.limit ∙ ap (λ (r : TeamRun). r.limit) begun;
          team = team;
          free = free;
          run = runs free;
          schedule_is = refl;
        };
        round_robin = subst (λ es. IsRoundRobin value (start_world (team_with value limit ts)) es new.world) (sym events)
            (subst (λ w. IsRoundRobin value w done.events new.world) (ap (λ (r : TeamRun). r.world) begun) done.done);
      }

-- by its own tasks, limit and schedule
pub of_itself : (value : Values) (limit : ℕ) (ts : List AgentTask) (schedule : List Event)
    (r : TeamRun) → HasDoneAll (team_with value limit ts) schedule r → HasDoneAll (team_in value r) r.schedule r
of_itself value limit ts schedule r done =
    record {
      tasks_are = refl;
      limit_is = refl;
      team = done.team;
      free = done.free;
      run = done.run;
      schedule_is = refl;
    }

-- by other tasks and another limit that are the same
pub done_for : (value : Values) (limit other : ℕ) (ts us : List AgentTask) (schedule : List Event)
    (r : TeamRun) → other ≡ limit → us ≡ ts → HasDoneAll (team_with value other us) schedule r → HasDoneAll (team_with value limit ts) schedule r
done_for value limit other ts us schedule r limits tasks done =
    record {
      tasks_are = done.tasks_are ∙ tasks;
      limit_is = done.limit_is ∙ limits;
      team = done.team;
      free = done.free;
      run = done.run;
      schedule_is = done.schedule_is;
    }
