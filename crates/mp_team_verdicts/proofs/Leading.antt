-- A legal event leads to a world.
use Rattle.mp_world.proofs.Basics.{◌≡◌, ◌≢◌, ℕ, true, false, List, [], ◌∷◌, length, drop, Option, Some, None, refl, ap, ◌∙◌, Ok, ◌==◌, if◌then◌else◌, not, option_and_then, slice_index_or, option_map_or, and_parts, false≢true}
use Rattle.mp_machine.specs.declared.event.Local.TheVariants as locals
use Rattle.mp_world.specs.AgentWords.{AgentTask, Event, Expand, Take, Start, AgentRecord, is_going, may, may_now, with_search, Step, started, took}
use Rattle.mp_world.specs.SearchWords.{expanded}
use Rattle.mp_world.specs.Events.{after_event, after_local, agent_may, agent_of, has_message, if_good, is_legal, local_of, local_step, run}
use Rattle.mp_world.specs.Team.{AreTeamTasks, IsTeam, Team}
use Rattle.mp_world.specs.Values.{Values}
use Rattle.mp_world.specs.World.{IsAgent, World, agent_at, under_way}
use Rattle.mp_world.proofs.Agents.{agree_numbered, member_of, sender_of}
use Rattle.mp_world.proofs.Runs.{run_of_team}
use Rattle.mp_team_snapshots.specs.Team.{IsTeamOf}
use Rattle.mp_team_snapshots.proofs.Agreeing.{are_of_team}
use Rattle.mp_team_verdicts.proofs.Frames.{IsKnownWorld}
use Rattle.mp_team_verdicts.proofs.GoodMessages.{is_good}
use Rattle.mp_team_verdicts.proofs.InRuns.{EndsSoFar, ends_so_far, known_of}

-- messages that are there begin with one
front_of : (xs : List (List ℕ)) → not (length xs == 0) ≡ true → xs ≡ slice_index_or xs 0 [] ∷ drop 1 xs
front_of [] some = absurd (let impossible : ⊥ = cc in impossible)
front_of (x ∷ xs) some = refl

-- the agent of an event that may happen
may_there : (w : World) (event : Event) → agent_may w event ≡ true → (r : AgentRecord) × (agent_at w (agent_of event) ≡ Some r) × (may r (local_of event) ≡ true)
may_there w event = by (agent_at w (agent_of event)) refl
  where
    by : (o : Option AgentRecord) → agent_at w (agent_of event) ≡ o → option_map_or (λ r. may r (local_of event)) o false ≡ true
        → (r : AgentRecord) × (agent_at w (agent_of event) ≡ Some r) × (may r (local_of event) ≡ true)
    by None there is = absurd (false≢true is)
    by (Some r) there is = (r, there, is)

module _ (value : Values) (publics : ℕ) (tasks : List AgentTask) (are : AreTeamTasks tasks)
    (team : IsTeamOf publics tasks) (w : World) (known : IsKnownWorld publics tasks w) (ends : EndsSoFar publics tasks w) where
  -- the agent takes a step
  takes : (event : Event) (r : AgentRecord) → agent_at w (agent_of event) ≡ Some r → may r (local_of event) ≡ true → has_message w event ≡ true
      → (s : Step) × (local_step value w event r ≡ Ok s)
  takes (Expand agent) r there allowed some = (with_search r (expanded r.task (value r.task) r.search), refl)
  takes Start r there allowed some = (started r, refl)
  takes (Take b a) r there allowed some =
      let sender = sender_of tasks team.numbered w known.team b a r there allowed in
      let going = (and_parts (is_going r.ending) (may_now r (locals.Take a)) allowed).0 in
      is_good publics tasks are team w known ends a b sender.0 sender.1 r there going (value r.task)
      (slice_index_or (under_way w a b) 0 []) (drop 1 (under_way w a b)) (front_of (under_way w a b) some)

  pub leads_on : (event : Event) → is_legal w event ≡ true → (next : World) × (after_event value w event ≡ Some next)
  unfolding after_event
  leads_on event legal =
      let parts = and_parts (agent_may w event) (has_message w event) legal in
      let found = may_there w event parts.0 in
      let step = takes event found.0 found.1 found.2 parts.1 in (
        after_local w event step.0,
        (λ k. if legal k then option_and_then (λ r. if_good w event (local_step value w event r)) (found.1 k) else None)
            ∙ ap (if_good w event) step.1,
      )

-- ---- in all runs

module _ (team : Team) (is_team : IsTeam team) (schedule : List Event) (w : World) (ran : run team schedule ≡ Some w) where
  open team use {tasks, value}

  -- the team of an agent
  team_of_agent : (i : ℕ) (r : AgentRecord) → agent_at w i ≡ Some r → IsTeamOf r.task.publics tasks
  team_of_agent i r there =
      let member = (member_of tasks (agree_numbered tasks is_team.tasks.agree) w (run_of_team team schedule w ran) i r there).task in
      are_of_team tasks r.task is_team.tasks member

  pub good_in_runs : (a b : ℕ) (r : AgentRecord) (bytes : List ℕ) (later : List (List ℕ)) → IsAgent w a → a ≢ b → agent_at w b ≡ Some r → is_going r.ending ≡ true
      → under_way w a b ≡ bytes ∷ later → (s : Step) × (took (value r.task) r a bytes ≡ Ok s)
  good_in_runs a b r bytes later sender apart there going front =
      let of_team = team_of_agent b r there in
      let publics = r.task.publics in
      is_good publics tasks is_team.tasks of_team w (known_of team is_team publics of_team schedule w ran)
      (ends_so_far team is_team publics of_team schedule w ran) a b sender apart r there going (value r.task) bytes later front

  pub leads_in_runs : (event : Event) → is_legal w event ≡ true → (next : World) × (after_event value w event ≡ Some next)
  leads_in_runs event legal =
      let found = may_there w event (and_parts (agent_may w event) (has_message w event) legal).0 in
      let of_team = team_of_agent (agent_of event) found.0 found.1 in
      let publics = found.0.task.publics in
      leads_on value publics tasks is_team.tasks of_team w (known_of team is_team publics of_team schedule w ran)
      (ends_so_far team is_team publics of_team schedule w ran) event legal
