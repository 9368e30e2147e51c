-- In every world that a legal schedule leads to, the end of the search has come to a stage, and all messages can be read.
use Rattle.mp_world.proofs.Basics.{◌≡◌, ℕ, zero, suc, ◌-◌, ◌<◌, ◌^◌, Bool, true, false, List, [], ◌∷◌, ◌++◌, length, replicate, Option, Some, None, All, refl, sym, ap, subst, ◌∙◌, arith, IfSome, ◌==◌, filter, if◌then◌else◌, option_and_then, slice_index_or}
use Rattle.mp_world.proofs.Basics.{filter_map, All-nil}
use Rattle.mp_runs.proofs.Runs.{run-more, run-none, run_keeps_history}
use Rattle.mp_world.specs.AgentWords.{AgentTask, Event, Findings, nothing, AgentRecord, given_verdict, new_record, is_deciding}
use Rattle.mp_world.specs.SearchWords.{Numbers}
use Rattle.mp_world.specs.Events.{after_event, agent_of, run}
use Rattle.mp_world.specs.Steps.{IsStepOf}
use Rattle.mp_world.specs.Team.{IsTeam, Team}
use Rattle.mp_world.specs.World.{World, agent_at, start_world}
use Rattle.mp_world.proofs.Agents.{agent_there, agree_numbered}
use Rattle.mp_world.proofs.LogOfRun.{new_at}
use Rattle.mp_world.proofs.Runs.{run_of_team}
use Rattle.mp_world.proofs.Stepping.{event_is_step, start_is_team, team_lists, team_size}
use Rattle.mp_team_snapshots.specs.Messages.{report_of}
use Rattle.mp_team_snapshots.specs.Team.{IsTeamOf, SendsFitting}
use Rattle.mp_team_snapshots.proofs.InRuns.{holds_in_runs}
use Rattle.mp_team_snapshots.proofs.Kept.{no_messages}
use Rattle.mp_team_snapshots.proofs.Protocol.{Sound}
use Rattle.mp_team_snapshots.proofs.Room.{event_roomy}
use Rattle.mp_team_snapshots.proofs.Worlds.{note_at, note_of, team_numbers, to_view, view}
use Rattle.mp_team_verdicts.specs.Ending.{HasGoal, HasNoPart, IsAt, Stage, is_of_end}
use Rattle.mp_team_verdicts.specs.Ending.Stage.{searching}
use Rattle.mp_team_verdicts.proofs.Few.{holds_so_far}
use Rattle.mp_team_verdicts.proofs.Fitting.{AreRead, IsRead, read_next}
use Rattle.mp_team_verdicts.proofs.Frames.{IsKnownWorld, NotesItsGoal}
use Rattle.mp_team_verdicts.proofs.Goals.{goals_next}
use Rattle.mp_team_verdicts.proofs.Heard.{hears_in_runs}
use Rattle.mp_team_verdicts.proofs.NotesOfPlans.{notes_none}
use Rattle.mp_team_verdicts.proofs.Stays.{event_comes}
use Rattle.mp_team_verdicts.proofs.Strays.{ReportsToFirst, reports_next}

-- what holds of the end of the search in every such world
pub record EndsSoFar (publics : ℕ) (tasks : List AgentTask) (w : World) : Type 0 where
  pub stage : Stage
  pub is : IsAt publics w stage
  pub read : AreRead (length tasks) publics w
  pub goals : (i : ℕ) (r : AgentRecord) → agent_at w i ≡ Some r → NotesItsGoal r
  pub reports : ReportsToFirst (length tasks) publics w

-- ---- the start

no_bytes : List (List ℕ)
no_bytes = []

none_in_row : (m j : ℕ) → slice_index_or (replicate m no_bytes) j [] ≡ []
unfolding no_bytes
none_in_row zero j = refl
none_in_row (suc m) zero = refl
none_in_row (suc m) (suc j) = none_in_row m j

none_in : (n m i j : ℕ) → slice_index_or (slice_index_or (replicate n (replicate m no_bytes)) i []) j [] ≡ []
unfolding no_bytes
none_in zero m i j = refl
none_in (suc n) m zero j = none_in_row m j
none_in (suc n) m (suc i) j = none_in n m i j

nothing_at : (n k : ℕ) → slice_index_or (replicate n nothing) k nothing ≡ nothing
nothing_at zero k = refl
nothing_at (suc n) zero = refl
nothing_at (suc n) (suc k) = nothing_at n k

new_undecided : (t : AgentTask) (value : Numbers → Numbers → Option ℕ) (limit : ℕ) → is_deciding (given_verdict (new_record t value limit)) ≡ false
new_undecided t value limit = by (t.me == 1)
  where
    by : (b : Bool) → is_deciding (if b then None else None) ≡ false
    by true = refl
    by false = refl

module _ (team : Team) (is_team : IsTeam team) (publics : ℕ) (of_team : IsTeamOf publics team.tasks) where
  open team use {tasks, value, limit}

  abbrev begin : World
  begin = start_world team

  start_at : IsAt publics begin searching
  start_at =
      let size = team_size tasks begin (start_is_team team) in
      let some = of_team.some in
      let found = agent_there begin 1 (record { from_1 = omega arith; at_most = omega arith }) in
      let first = found.0 in
      record {
        first = first;
        there = found.1;
        verdict = ap (λ (r : AgentRecord). is_deciding (given_verdict r)) (new_at team 1 first found.1) ∙ new_undecided first.task (value first.task) limit;
        agents = λ i r there.
            subst HasNoPart (sym (new_at team i r there))
            (record { walked = record { trail = sym (notes_none r.task.me); going = refl }; picked = refl });
        mail = λ i j r agent there. ap (filter is_of_end) (no_messages team publics of_team i j);
      }

  start_goals : (i : ℕ) (r : AgentRecord) → agent_at begin i ≡ Some r → NotesItsGoal r
  start_goals i r there =
      subst NotesItsGoal (sym (new_at team i r there))
      (subst (λ (f : Findings). IfSome f.goal (λ cost. (number : ℕ) × HasGoal (new_record r.task (value r.task) limit) number cost)) (sym (nothing_at 16 (r.task.me - 1))) tt)

  start_ends : EndsSoFar publics tasks begin
  unfolding no_bytes
  start_ends = record {
    stage = searching;
    is = start_at;
    read = λ i j is_i is_j.
        subst (λ (ms : List (List ℕ)). All (IsRead (length tasks) publics) ms) (sym (none_in (length tasks) (length tasks) (i - 1) (j - 1))) (All-nil (IsRead (length tasks) publics));
    goals = start_goals;
    reports = λ i j is_i is_j other. ap (filter_map report_of) (no_messages team publics of_team i j);
  }

  pub known_of : (schedule : List Event) (w : World) → run team schedule ≡ Some w → IsKnownWorld publics tasks w
  known_of schedule w ran = record {
    team = run_of_team team schedule w ran;
    so_far = holds_so_far team is_team schedule w ran;
    in_runs = holds_in_runs team publics of_team schedule w ran;
    hears = hears_in_runs team (agree_numbered tasks is_team.tasks.agree) schedule w ran;
  }

  -- markers and reports that go out have room
  sends_fit : (w : World) → IsKnownWorld publics tasks w → (event : Event) (next : World) (step : IsStepOf value w event next) → SendsFitting step.step
  sends_fit w known event next step =
      let sound = known.in_runs.sound in
      let seen : Sound (length tasks) (view publics w) = to_view publics tasks of_team w (team_numbers publics tasks of_team w known.team) sound in
      let small : (note_at w 1).number < 2 ^ 60 =
      subst (λ s. s.number < 2 ^ 60) (sym (note_of w 1 sound.first sound.first_there)) (known.in_runs.room 1 sound.first sound.first_there).number in
      (event_roomy value publics tasks of_team w known.team seen small event next step (known.in_runs.room (agent_of event) step.agent step.there)).sends

  ends_next : (w : World) → IsKnownWorld publics tasks w → (event : Event) (next : World) → IsKnownWorld publics tasks next → IsStepOf value w event next
      → EndsSoFar publics tasks w → EndsSoFar publics tasks next
  ends_next w known event next known_next step old =
      let sends = sends_fit w known event next step in
      let goals = goals_next value publics tasks is_team.tasks of_team w next known known_next event step old.goals in
      let comes = event_comes value publics tasks is_team.tasks of_team w next known known_next goals event step sends.fits old.stage old.is in
      record {
        stage = comes.stage;
        is = comes.is;
        read = read_next value publics tasks of_team w known.team event next step comes.fits old.read;
        goals = goals;
        reports = reports_next value publics tasks of_team w known.team old.reports next event step sends;
      }

  pub ends_so_far : (schedule : List Event) (w : World) → run team schedule ≡ Some w → EndsSoFar publics tasks w
  ends_so_far schedule w ran =
      (run_keeps_history (after_event value) (λ past v. (run team past ≡ Some v) × EndsSoFar publics tasks v)
      (λ past v next event both leads.
      let known = known_of past v both.0 in
      let now : run team (past ++ event ∷ []) ≡ Some next =
      run-more (after_event value) begin past event ∙ ap (λ (o : Option World). option_and_then (λ t. after_event value t event) o) both.0 ∙ leads in
      (now, ends_next v known event next (known_of (past ++ event ∷ []) next now) (event_is_step value v (team_lists tasks v known.team) event next leads) both.1))
      [] schedule begin w (run-none (after_event value) begin, start_ends) ran).1
