-- Estimates stay bounds of what is still to be paid, in whichever agent's search, and goals stay flagged.
use Rattle.mp_world.proofs.Basics.{◌≡◌, ℕ, ◌⊎◌, List, [], Option, Some, refl, sym, ap, subst, ◌∙◌, inl, inr, Contains, slice_get, cases_eq, none-some, same_Some}
use Rattle.mp_reach.specs.Found.{Entry as Seen, Message as Sent}
use Rattle.mp_reach.specs.LeadsOn.{IsTeamBoundFor, Known}
use Rattle.mp_reach.specs.Explored.{IsAt}
use Rattle.mp_world.specs.AgentWords.{AgentTask, JointState, Event, AgentRecord}
use Rattle.mp_world.specs.SearchWords.{Numbers, Entry, Root, empty, AgentState, start_state, own_value, start_record, state_of}
use Rattle.mp_world.specs.Events.{agent_of}
use Rattle.mp_world.specs.Joint.{joint, joint_told}
use Rattle.mp_world.specs.Steps.{IsStepOf}
use Rattle.mp_world.specs.Team.{AreTeamTasks, IsTeam, Team}
use Rattle.mp_world.specs.Values.{Values}
use Rattle.mp_world.specs.World.{IsTeamWorld, World, agent_at, start_world}
use Rattle.mp_world.proofs.Agents.{agree_numbered}
use Rattle.mp_team_states.specs.Room.{AreSmall}
use Rattle.mp_team_states.specs.Sound.{AreStatesSound, IsStateOf}
use Rattle.mp_team_states.proofs.Entries.{IsNew, IsOld, changes_entry}
use Rattle.mp_team_states.proofs.Expanding.{IsFirst, start_changes}
use Rattle.mp_team_states.proofs.GoodStates.{receiver_knows, what_is_read}
use Rattle.mp_team_states.proofs.NewEntries.{Comes, entry_comes}
use Rattle.mp_team_states.proofs.ReachedEntries.{HasIt, entry_in, has_it}
use Rattle.mp_team_states.proofs.StartReached.{task_is}
use Rattle.mp_team_states.proofs.StepsSound.{task_at}
use Rattle.mp_team_states.specs.Estimates.{AreEstimatesBoundsFor}
use Rattle.mp_team_states.specs.TeamFound.{found_of}
use Rattle.mp_team_states.proofs.Found.{found_entry, found_message}
use Rattle.mp_team_states.proofs.SoundWorlds.{IsHeuristicFor, greater_bound, own_bound, states_known, told_of}
use Rattle.mp_team_states.proofs.Staying.{known, same_joint}

-- an entry of the start is that of the initial state
pub record IsStartEntry (t : AgentTask) (value : Numbers → Numbers → Option ℕ) (e : Entry AgentState) : Type 0 where
  pub key : e.key ≡ start_state t
  pub h : own_value t value e.key ≡ Some e.h
  pub origin : e.origin ≡ Root

pub start_entry : (t : AgentTask) (value : Numbers → Numbers → Option ℕ) (n : ℕ) (e : Entry AgentState) → slice_get (start_record t value).kept.entries n ≡ Some e → IsStartEntry t value e
start_entry t value n e at = by (changes_entry (IsFirst t value) t empty (start_record t value).kept [] (start_changes t value) n e at)
  where
    by : IsOld empty n e ⊎ IsNew (IsFirst t value) t (start_record t value).kept n e → IsStartEntry t value e
    by (inl old) = absurd (none-some old.old old.there)
    by (inr new) = record {
      key = new.alike.key ∙ new.comes.key;
      h = ap (own_value t value) (new.alike.key ∙ new.comes.key) ∙ new.comes.h ∙ ap (λ (h : ℕ). Some h) (sym new.alike.h);
      origin = new.alike.origin ∙ new.comes.origin;
    }

-- ---- at the start

module _ (team : Team) (is_team : IsTeam team) {Goal : Known → Type 0} (heuristic : IsHeuristicFor Goal team.value team.tasks) where
  open team use {tasks, value}

  pub start_bounds : IsTeamWorld tasks (start_world team) → AreStatesSound tasks (start_world team) → AreEstimatesBoundsFor tasks Goal (start_world team)
  start_bounds of_team sound agent n e has other =
      let w = start_world team in
      let h = has_it w agent n e has in
      let of = task_is team is_team agent h.agent_is h.there in
      let first = start_entry of.0 (value of.0) n e (subst (λ (r : AgentRecord). slice_get r.search.kept.entries n ≡ Some e) of.2 h.at) in
      let task : h.agent_is.task ≡ of.0 = ap (λ (r : AgentRecord). r.task) of.2 in
      let estimate : own_value h.agent_is.task (value h.agent_is.task) e.key ≡ Some e.h = ap (λ (t : AgentTask). own_value t (value t) e.key) task ∙ first.h in
      own_bound tasks is_team.tasks w of_team sound value heuristic agent h.agent_is h.there e.key
      (states_known tasks is_team.tasks w of_team sound agent n h.agent_is e h.there h.at) e.h other estimate

module _ (tasks : List AgentTask) (are : AreTeamTasks tasks) where
  module _ {Goal : Known → Type 0} (value : Values) (heuristic : IsHeuristicFor Goal value tasks) where
    -- ---- at an event

    module _ (w : World) (team : IsTeamWorld tasks w) (sound : AreStatesSound tasks w) (small : AreSmall w) (bounds : AreEstimatesBoundsFor tasks Goal w) (next : World)
        (later_team : IsTeamWorld tasks next) (later_sound : AreStatesSound tasks next) (event : Event) (is : IsStepOf value w event next) where
      joint_later : (agent : ℕ) (r : AgentRecord) (s : AgentState) → agent_at w agent ≡ Some r → IsStateOf w r.task s → joint next agent s ≡ joint w agent s
      joint_later = same_joint tasks are w team sound small value heuristic next later_team later_sound event is

      -- an entry that was there
      old_bound : (agent n : ℕ) (r : AgentRecord) (old e : Entry AgentState) → agent_at w agent ≡ Some r → slice_get r.search.kept.entries n ≡ Some old → e.key ≡ old.key → e.h ≡ old.h
          → (other : ℕ) → IsTeamBoundFor tasks Goal (known other (joint next agent e.key)) e.h
      old_bound agent n r old e there at key h other =
          let whole : joint next agent e.key ≡ joint w agent old.key =
          ap (joint next agent) key ∙ joint_later agent r old.key there (states_known tasks are w team sound agent n r old there at)
          in
          subst (λ (s : JointState). IsTeamBoundFor tasks Goal (known other s) e.h) (sym whole)
          (subst (λ (h : ℕ). IsTeamBoundFor tasks Goal (known other (joint w agent old.key)) h) (sym h) (bounds agent n old (entry_in w agent n r old there at) other))

      -- an entry of the event's agent
      new_bound : (n : ℕ) (e : Entry AgentState) → slice_get is.step.after.search.kept.entries n ≡ Some e → Comes (value is.agent.task) tasks w is.agent is.step n e
          → is.step.after.task ≡ is.agent.task → (other : ℕ) → IsTeamBoundFor tasks Goal (known other (joint next (agent_of event) e.key)) e.h
      new_bound n e at (inl old) task other = old_bound (agent_of event) n is.agent old.old e is.there old.there old.alike.key old.alike.h other
      new_bound n e at (inr (inl led)) task other =
          own_bound tasks are next later_team later_sound value heuristic (agent_of event) is.step.after is.after e.key
          (states_known tasks are next later_team later_sound (agent_of event) n is.step.after e is.after at) e.h other
          (ap (λ (t : AgentTask). own_value t (value t) e.key) task ∙ led.h_is)
      new_bound n e at (inr (inr heard)) task other =
          let a = agent_of event in
          let m = heard.message in
          let told = told_of tasks are w team sound heard.sender heard.task m heard.at heard.state in
          let knows = receiver_knows tasks are w team sound heard.sender a heard.task is.agent heard.at is.there m heard.state in
          let whole : joint next a e.key ≡ joint_told w m =
          ap (joint next a) heard.key ∙ joint_later a is.agent (state_of is.agent.task is.agent.search.kept m) is.there knows.0 ∙ knows.1
          in
          let sent : IsTeamBoundFor tasks Goal (known other (joint next a e.key)) m.h =
          subst (λ (s : JointState). IsTeamBoundFor tasks Goal (known other s) m.h) (told.joint_is ∙ sym whole)
          (subst (λ (h : ℕ). IsTeamBoundFor tasks Goal (known other (joint w heard.sender told.entry.key)) h) (sym told.estimate)
          (bounds heard.sender told.number told.entry (entry_in w heard.sender told.number told.agent_is told.entry told.there told.at) other))
          in
          greater_bound tasks Goal (known other (joint next a e.key)) (own_value is.agent.task (value is.agent.task) e.key) m.h e.h
          (λ x x_is.
          own_bound tasks are next later_team later_sound value heuristic a is.step.after is.after e.key
          (states_known tasks are next later_team later_sound a n is.step.after e is.after at) x other
          (ap (λ (t : AgentTask). own_value t (value t) e.key) task ∙ x_is))
          sent heard.h_is

      pub event_bounds : AreEstimatesBoundsFor tasks Goal next
      event_bounds agent n e has other = by (cases_eq agent (agent_of event))
        where
          h : HasIt next agent n e
          h = has_it next agent n e has

          task : is.step.after.task ≡ is.agent.task
          task =
              same_Some is.step.after.task is.agent.task
              (sym (task_at tasks are next later_team (agent_of event) is.step.after is.after) ∙ task_at tasks are w team (agent_of event) is.agent is.there)

          by : (agent ≡ agent_of event) ⊎ (agent ≡ agent_of event → ⊥) → IsTeamBoundFor tasks Goal (known other (joint next agent e.key)) e.h
          by (inl same) =
              let one : h.agent_is ≡ is.step.after = same_Some h.agent_is is.step.after (sym h.there ∙ ap (agent_at next) same ∙ is.after) in
              let at : slice_get is.step.after.search.kept.entries n ≡ Some e = subst (λ (r : AgentRecord). slice_get r.search.kept.entries n ≡ Some e) one h.at in
              subst (λ (a : ℕ). IsTeamBoundFor tasks Goal (known other (joint next a e.key)) e.h) (sym same)
              (new_bound n e at (entry_comes tasks are w team sound value next event is n e at) task other)
          by (inr apart) = old_bound agent n h.agent_is e e (sym (is.others agent apart) ∙ h.there) h.at refl refl other

  -- ---- what follows in a world

  module _ (Goal : Known → Type 0) (w : World) (team : IsTeamWorld tasks w) (sound : AreStatesSound tasks w) (bounds : AreEstimatesBoundsFor tasks Goal w) where
    pub entry_bounds : (i : ℕ × ℕ) (seen : Seen Known) → IsAt (found_of w) i seen → IsTeamBoundFor tasks Goal seen.state seen.estimate
    entry_bounds i seen there =
        let f = found_entry w i seen there in
        subst (λ (x : Seen Known). IsTeamBoundFor tasks Goal x.state x.estimate) (sym f.is)
        (bounds i.0 i.1 f.entry (entry_in w i.0 i.1 f.agent_is f.entry f.there f.at) i.0)

    pub message_bounds : (x : Sent Known) → Contains (found_of w).under_way x → IsTeamBoundFor tasks Goal x.state x.estimate
    message_bounds x here =
        let f = found_message tasks (agree_numbered tasks are.agree) w team x here in
        let m = f.state in
        let at = task_at tasks are w team f.from f.sender f.sender_there in
        let state = (what_is_read tasks are w team sound f.from f.to f.sender.task f.receiver at f.receiver_there f.bytes m f.here f.reads).1 in
        let told = told_of tasks are w team sound f.from f.sender.task m at state in
        let bound = bounds f.from told.number told.entry (entry_in w f.from told.number told.agent_is told.entry told.there told.at) f.receiver.task.me in
        subst (λ (y : Sent Known). IsTeamBoundFor tasks Goal y.state y.estimate) f.is
        (subst (λ (s : JointState). IsTeamBoundFor tasks Goal (known f.receiver.task.me s) m.h) told.joint_is
        (subst (λ (h : ℕ). IsTeamBoundFor tasks Goal (known f.receiver.task.me (joint w f.from told.entry.key)) h) (sym told.estimate) bound))
