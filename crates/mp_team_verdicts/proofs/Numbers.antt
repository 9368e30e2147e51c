-- The number of agent 1's last snapshot is at most that of the events so far.
use Rattle.mp_world.proofs.Basics.{◌≡◌, ℕ, ◌+◌, ◌≤◌, List, [], ◌∷◌, length, Some, refl, sym, ap, ◌∙◌, arith, ◌⊎◌, inl, inr, cases_eq, same_Some}
use Rattle.mp_runs.proofs.Runs.{run-none, run_parts}
use Rattle.mp_world.specs.AgentWords.{Event, Notes, AgentRecord}
use Rattle.mp_world.specs.Events.{after_event, agent_of, run}
use Rattle.mp_world.specs.Steps.{IsStepOf}
use Rattle.mp_world.specs.Team.{IsTeam, Team}
use Rattle.mp_world.specs.World.{World, agent_at, start_world}
use Rattle.mp_world.proofs.Agents.{agent_there}
use Rattle.mp_world.proofs.LogOfRun.{new_at}
use Rattle.mp_team_snapshots.specs.Team.{IsTeamOf}
use Rattle.mp_team_snapshots.proofs.Changes.{note_after, note_before, note_other}
use Rattle.mp_team_snapshots.proofs.Worlds.{note_at, note_of}
use Rattle.mp_team_verdicts.proofs.Frames.{IsKnownWorld}
use Rattle.mp_team_verdicts.proofs.Calm.{Goes, Reached}
use Rattle.mp_team_verdicts.proofs.Noting.{moved}
use Rattle.mp_team_verdicts.proofs.ReachedWorlds.{known, reached_next, start_reached, step_of}
use Rattle.mp_team_verdicts.proofs.Staying.{number_moves}
use Rattle.mp_team_verdicts.proofs.Stuck.{is_agent, is_first}

at_most_one_more : (before after old new : ℕ) → before ≡ old → after ≡ new → (new ≡ old) ⊎ (new ≡ old + 1) → after ≤ before + 1
at_most_one_more before after old new was is (inl same) = omega arith
at_most_one_more before after old new was is (inr more) = omega arith

module _ (team : Team) (is_team : IsTeam team) (publics : ℕ) (of_team : IsTeamOf publics team.tasks) where
  open team use {tasks, value}

  abbrev At : World → Type 0
  At = Reached team is_team publics of_team

  abbrev Leads : World → List Event → World → Type 0
  Leads = Goes team is_team publics of_team

  abbrev number : World → ℕ
  number w = (note_at w 1).number

  is_known : (w : World) → At w → IsKnownWorld publics tasks w
  is_known = known team is_team publics of_team

  -- an event gives one number more at most
  pub one_more : (w next : World) (event : Event) → At w → IsStepOf value w event next → number next ≤ number w + 1
  one_more w next event at step = by (cases_eq 1 (agent_of event))
    where
      by : (1 ≡ agent_of event) ⊎ (1 ≡ agent_of event → ⊥) → number next ≤ number w + 1
      by (inl same) =
          let is = (is_known w at).team in
          let m = moved value publics tasks of_team w is event next step in
          at_most_one_more (number w) (number next) step.agent.snapshot.number step.step.after.snapshot.number
          (ap (λ (s : Notes). s.number) (ap (note_at w) same ∙ note_before value publics tasks of_team w is event next step))
          (ap (λ (s : Notes). s.number) (ap (note_at next) same ∙ note_after value publics tasks of_team w is event next step))
          (number_moves (agent_of event) m.message step.agent step.step.after m.moves)
      by (inr other) =
          let same = ap (λ (s : Notes). s.number) (note_other value publics tasks of_team w (is_known w at).team event next step 1 other) in
          at_most_one_more (number w) (number next) (number w) (number next) refl refl (inl same)

  -- so many events give so many numbers at most
  pub more_by_events : (events : List Event) (u w : World) → At u → Leads u events w → number w ≤ number u + length events
  more_by_events [] u w at goes =
      let same : number u ≡ number w = ap number (same_Some u w (sym (run-none (after_event value) u) ∙ goes)) in
      omega arith
  more_by_events (e ∷ events) u w at goes =
      let parts = run_parts (after_event value) u w e events goes in
      let first = one_more u parts.0 e at (step_of team is_team publics of_team u parts.0 e at parts.1) in
      let rest = more_by_events events parts.0 w (reached_next team is_team publics of_team u parts.0 e at parts.1) parts.2 in
      omega arith

  -- no snapshot has begun at the start
  none_begun : number (start_world team) ≡ 0
  none_begun =
      let begin = start_world team in
      let at = start_reached team is_team publics of_team in
      let first = agent_there begin 1
      (is_agent team is_team publics of_team begin at 1
      (is_first team is_team publics of_team begin at)) in
      ap (λ (s : Notes). s.number) (note_of begin 1 first.0 first.1)
      ∙ ap (λ (r : AgentRecord). r.snapshot.number) (new_at team 1 first.0 first.1)

  pub number_of_events : (schedule : List Event) (w : World) (first : AgentRecord) → run team schedule ≡ Some w
      → agent_at w 1 ≡ Some first → first.snapshot.number ≤ length schedule
  number_of_events schedule w first ran there =
      let begin = start_world team in
      let none = none_begun in
      let more = more_by_events schedule begin w (start_reached team is_team publics of_team) ran in
      let mine = ap (λ (s : Notes). s.number) (note_of w 1 first there) in
      omega arith
