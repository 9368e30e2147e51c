-- In every world that a legal schedule leads to, agents keep few entries, and paths are short.
use Rattle.mp_world.proofs.Basics.{◌≡◌, ℕ, ◌≤◌, ◌<◌, ◌^◌, ◌-◌, List, [], ◌∷◌, get_or, suc, Some, All, refl, sym, ap, subst, arith, slice_get, sum_by, slice_get-get_or}
use Rattle.std.proofs.lemmas.List.Sums.{sum_by-le}
use Rattle.mp_world.specs.AgentWords.{AgentTask, Event, AgentRecord, new_record}
use Rattle.mp_world.specs.SearchWords.{empty, Root, start_state, own_value}
use Rattle.mp_world.specs.Events.{agent_of, local_of, run, taken}
use Rattle.mp_world.specs.Steps.{IsStepOf}
use Rattle.mp_world.specs.Team.{AreTeamTasks, IsTeam, Team}
use Rattle.mp_world.specs.Values.{Values}
use Rattle.mp_world.specs.World.{IsTeamWorld, World, agent_at, start_world}
use Rattle.mp_world.proofs.Runs.{run_has}
use Rattle.mp_team_states.specs.Paths.{AreReached}
use Rattle.mp_team_states.specs.Sound.{AreStatesSound}
use Rattle.mp_team_states.proofs.ReachedEntries.{event_reaches}
use Rattle.mp_team_states.proofs.StartReached.{start_reaches, task_is}
use Rattle.mp_team_states.proofs.StartSound.{start_states_sound}
use Rattle.mp_team_states.proofs.StepsSound.{limits_of, states_stay_sound}
use Rattle.mp_team_verdicts.specs.Few.{ArePathsShort, KeepFew, entries_of, kept_by_all}
use Rattle.mp_team_states.proofs.EachAgent.{each_agent}
use Rattle.mp_team_verdicts.proofs.OneEntry.{few_agents, few_entries}
use Rattle.mp_team_verdicts.proofs.OwnEntries.{HasFewOwn, local_own, offered_count}
use Rattle.mp_team_verdicts.proofs.Short.{event_short, start_short}

-- so it is with all agents
abbrev pub HaveFewOwn : World → Type 0
HaveFewOwn w = (agent : ℕ) (r : AgentRecord) → agent_at w agent ≡ Some r → HasFewOwn r

-- what holds in every such world
pub record HoldsSoFar (tasks : List AgentTask) (w : World) : Type 0 where
  pub sound : AreStatesSound tasks w
  pub reached : AreReached tasks w
  pub short : ArePathsShort w
  pub own : HaveFewOwn w

module _ (tasks : List AgentTask) (are : AreTeamTasks tasks) where
  own_next : (value : Values) (w : World) (event : Event) (next : World) → IsTeamWorld tasks w → IsStepOf value w event next → HaveFewOwn w → HaveFewOwn next
  own_next value w event next team is old =
      let fit = limits_of tasks are w team (agent_of event) is.agent is.there in
      each_agent value w event next is (λ agent r. HasFewOwn r)
      (local_own (value is.agent.task) is.agent is.step (old (agent_of event) is.agent is.there) (local_of event) (taken w event) fit.number_of_acts is.local)
      (λ agent r there other. old agent r there)

  module _ (w : World) (team : IsTeamWorld tasks w) (holds : HoldsSoFar tasks w) where
    pub keeps_few : KeepFew w
    keeps_few agent r there = few_entries tasks are w team holds.sound holds.reached agent r there (holds.own agent r there)

    -- all together
    pub few_kept : kept_by_all w < 2 ^ 50
    few_kept = by w.agents refl
      where
        each : All (λ r. entries_of r ≤ 2 ^ 46 - 1) w.agents
        each k d inside =
            let there : agent_at w (suc k) ≡ Some (get_or w.agents k d) = slice_get-get_or w.agents k d inside in
            let few = keeps_few (suc k) (get_or w.agents k d) there in
            omega arith

        by : (rs : List AgentRecord) → w.agents ≡ rs → kept_by_all w < 2 ^ 50
        by [] is = let none : kept_by_all w ≡ 0 = ap (λ (rs : List AgentRecord). sum_by entries_of rs) is in omega arith
        by (r ∷ rs) is =
            let there : agent_at w 1 ≡ Some r = ap (λ (xs : List AgentRecord). slice_get xs 0) is in
            let many = few_agents tasks are w team holds.sound holds.reached 1 r there in
            let all = sum_by-le entries_of (2 ^ 46 - 1) w.agents each in
            omega arith

module _ (team : Team) (is_team : IsTeam team) where
  open team use {tasks, value, limit}

  start_own : HaveFewOwn (start_world team)
  start_own agent r there =
      let of = task_is team is_team agent r there in
      subst HasFewOwn (sym of.2) (first of.0)
    where
      first : (t : AgentTask) → HasFewOwn (new_record t (value t) limit)
      first t = offered_count t (start_state t) 0 Root empty (own_value t (value t) (start_state t))

  pub holds_so_far : (schedule : List Event) (w : World) → run team schedule ≡ Some w → HoldsSoFar tasks w
  holds_so_far =
      run_has team (HoldsSoFar tasks)
      (record {
        sound = start_states_sound team is_team;
        reached = start_reaches team is_team;
        short = start_short team is_team;
        own = start_own;
      })
      (λ w event next of_team old is. record {
        sound = states_stay_sound tasks is_team.tasks w of_team old.sound value next event is;
        reached = event_reaches tasks is_team.tasks w of_team old.sound old.reached value next event is;
        short = event_short tasks is_team.tasks w of_team old.sound old.reached old.short value next event is;
        own = own_next tasks is_team.tasks value w event next of_team is old.own;
      })
