-- The path to each entry has at most as many steps as all agents have expanded entries.
use Rattle.mp_world.proofs.Basics.{◌≡◌, ℕ, ◌+◌, ◌-◌, ◌≤◌, ◌⊎◌, List, [], ◌∷◌, ◌++◌, length, Some, sym, ap, subst, ◌∙◌, arith, inl, inr, slice_get, cases_eq, length-append, none-some, same_Some}
use Rattle.mp_world.specs.AgentWords.{AgentTask, TaskStep, Event, AgentRecord}
use Rattle.mp_world.specs.SearchWords.{Entry, empty, AgentState, start_record}
use Rattle.mp_world.specs.Team.{AreTeamTasks, IsTeam, Team}
use Rattle.mp_world.specs.Values.{Values}
use Rattle.mp_world.specs.World.{IsTeamWorld, World, agent_at, start_world}
use Rattle.mp_world.specs.Events.{agent_of}
use Rattle.mp_world.specs.Steps.{IsStepOf}
use Rattle.mp_team_states.specs.Further.{HaveGrown}
use Rattle.mp_team_states.specs.Paths.{AreReached, IsEntryAt, IsPath}
use Rattle.mp_team_states.specs.Paths.IsPath.{at_root, by_action, by_message}
use Rattle.mp_team_states.specs.Room.{expanded_by_all}
use Rattle.mp_team_states.specs.Sound.{AreStatesSound}
use Rattle.mp_team_states.proofs.Entries.{IsNew, IsOld, changes_entry}
use Rattle.mp_team_states.proofs.Expanding.{IsFirst, start_changes}
use Rattle.mp_team_states.proofs.NewEntries.{Comes, IsHeardIn, IsLedIn, entry_comes}
use Rattle.mp_team_states.proofs.ReachedEntries.{HasIt, entry_in, has_it, one_path, path_stays, sent_at_stays, told_rightly}
use Rattle.mp_team_states.proofs.RoomLemmas.{counts_grow, sum_more}
use Rattle.mp_team_states.proofs.StartReached.{task_is}
use Rattle.mp_team_states.proofs.WorldsGrow.{step_grows}
use Rattle.mp_team_verdicts.specs.Few.{ArePathsShort}

-- ---- paths

-- the entry that a path leads to
pub path_entry : (w : World) (agent number : ℕ) (steps : List TaskStep) → IsPath w agent number steps → (e : Entry AgentState) × IsEntryAt w agent number e
path_entry w agent number steps (at_root _ _ e is root) = (e, is)
path_entry w agent number steps (by_action _ _ e action parent before is own path) = (e, is)
path_entry w agent number steps (by_message _ _ e sender sent there _ is from given path) = (e, is)

module _ (tasks : List AgentTask) (are : AreTeamTasks tasks) (w : World) (team : IsTeamWorld tasks w) (sound : AreStatesSound tasks w)
    (reached : AreReached tasks w) (short : ArePathsShort w) (value : Values) (next : World) (event : Event)
    (is : IsStepOf value w event next) where
  grown : HaveGrown w next
  grown = step_grows value w next event is

  more : expanded_by_all w ≤ expanded_by_all next
  more = counts_grow value w next event is

  -- a path that was there
  known : (agent number : ℕ) (before steps : List TaskStep) → IsPath w agent number before → IsPath next agent number steps
      → length steps ≤ expanded_by_all w
  known agent number before steps path now =
      let same = ap length (one_path next agent number before steps (path_stays w next grown agent number before path) now) in
      let few = short agent number before path in
      omega arith

  old_short : (agent number : ℕ) (e : Entry AgentState) (steps : List TaskStep) → IsEntryAt w agent number e → IsPath next agent number steps
      → length steps ≤ expanded_by_all next
  old_short agent number e steps has now =
      let x = reached agent number e has in
      let few = known agent number x.steps steps x.path now in
      let least = more in
      omega arith

  led_short : (n : ℕ) (e : Entry AgentState) (steps : List TaskStep) → IsLedIn (value is.agent.task) is.agent is.step.after.search n e
      → IsEntryAt next (agent_of event) n e → IsPath next (agent_of event) n steps → length steps ≤ expanded_by_all next
  led_short n e steps led has now =
      let a = agent_of event in
      let step : TaskStep = record { agent = a; action = led.action } in
      let x = reached a led.parent led.old (entry_in w a led.parent is.agent led.old is.there led.was) in
      let path = path_stays w next grown a led.parent x.steps x.path in
      let few = short a led.parent x.steps x.path in
      let same = ap length (one_path next a n (x.steps ++ step ∷ []) steps (by_action a n e led.action led.parent x.steps has led.origin path) now) in
      let longer = length-append x.steps (step ∷ []) in
      let one = led.counted in
      let all = sum_more value w next event is (λ r. r.search.expansions) in
      omega arith

  heard_short : (n : ℕ) (e : Entry AgentState) (steps : List TaskStep) → IsHeardIn (value is.agent.task) tasks w is.agent e
      → IsEntryAt next (agent_of event) n e → IsPath next (agent_of event) n steps → length steps ≤ expanded_by_all next
  heard_short n e steps heard has now =
      let a = agent_of event in
      let m = heard.message in
      let x = told_rightly tasks are w team sound reached heard.sender heard.task m heard.at heard.state in
      let given = sent_at_stays w next grown heard.sender m.sent x.number x.given in
      let path = path_stays w next grown heard.sender x.number x.steps x.path in
      let same = ap length (one_path next a n x.steps steps (by_message a n e heard.sender m.sent x.number x.steps has heard.origin given path) now) in
      let few = short heard.sender x.number x.steps x.path in
      let least = more in
      omega arith

  pub event_short : ArePathsShort next
  event_short agent number steps now = by (cases_eq agent (agent_of event))
    where
      found : (e : Entry AgentState) × IsEntryAt next agent number e
      found = path_entry next agent number steps now

      h : HasIt next agent number found.0
      h = has_it next agent number found.0 found.1

      -- an entry that is alike was there
      was_old : (a : ℕ) (r : AgentRecord) (old : Entry AgentState) → agent_at w a ≡ Some r → slice_get r.search.kept.entries number ≡ Some old
          → IsPath next a number steps → length steps ≤ expanded_by_all next
      was_old a r old there at path = old_short a number old steps (entry_in w a number r old there at) path

      new : IsEntryAt next (agent_of event) number found.0 → IsPath next (agent_of event) number steps → Comes (value is.agent.task) tasks w is.agent is.step number found.0
          → length steps ≤ expanded_by_all next
      new has path (inl old) = was_old (agent_of event) is.agent old.old is.there old.there path
      new has path (inr (inl led)) = led_short number found.0 steps led has path
      new has path (inr (inr heard)) = heard_short number found.0 steps heard has path

      by : (agent ≡ agent_of event) ⊎ (agent ≡ agent_of event → ⊥) → length steps ≤ expanded_by_all next
      by (inl same) =
          let one : h.agent_is ≡ is.step.after = same_Some h.agent_is is.step.after (sym h.there ∙ ap (agent_at next) same ∙ is.after) in
          new (subst (λ (a : ℕ). IsEntryAt next a number found.0) same found.1) (subst (λ (a : ℕ). IsPath next a number steps) same now)
          (entry_comes tasks are w team sound value next event is number found.0
          (subst (λ (r : AgentRecord). slice_get r.search.kept.entries number ≡ Some found.0) one h.at))
      by (inr other) = was_old agent h.agent_is found.0 (sym (is.others agent other) ∙ h.there) h.at now

-- ---- the start

module _ (team : Team) (is_team : IsTeam team) where
  open team use {value}

  abbrev pub start : World
  start = start_world team

  -- each entry is an initial state
  pub start_short : ArePathsShort start
  start_short agent number steps path =
      let found = path_entry start agent number steps path in
      let h = has_it start agent number found.0 found.1 in
      let of = task_is team is_team agent h.agent_is h.there in
      let t = of.0 in
      let at : slice_get (start_record t (value t)).kept.entries number ≡ Some found.0 =
      subst (λ (r : AgentRecord). slice_get r.search.kept.entries number ≡ Some found.0) of.2 h.at in
      either found.0 found.1 (changes_entry (IsFirst t (value t)) t empty (start_record t (value t)).kept [] (start_changes t (value t)) number found.0 at)
    where
      either : (e : Entry AgentState) → IsEntryAt start agent number e → {t : AgentTask}
          → IsOld empty number e ⊎ IsNew (IsFirst t (value t)) t (start_record t (value t)).kept number e → length steps ≤ expanded_by_all start
      either e has (inl old) = absurd (none-some old.old old.there)
      either e has (inr new) =
          let same = ap length (one_path start agent number [] steps (at_root agent number e has (new.alike.origin ∙ new.comes.origin)) path) in
          omega arith
