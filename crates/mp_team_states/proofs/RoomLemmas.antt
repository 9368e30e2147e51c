-- Costs and estimates stay small.
use Rattle.mp_world.proofs.Basics.{◌≡◌, ℕ, zero, suc, ◌+◌, ◌*◌, ◌-◌, ◌<◌, ◌≤◌, ◌^◌, ◌⊎◌, List, [], ◌∷◌, get_or, Option, Some, None, refl, sym, ap, subst, ◌∙◌, arith, inl, inr, Contains, IfSome, IsSomeAnd, Ok, option_map, slice_get, slice_set, sum_by, cases_eq}
use Rattle.mp_world.proofs.Basics.{All-contains, get_or_from_slice_get, none-some, same_Some, slice_get_within}
use Rattle.std.proofs.Common.{max}
use Rattle.std.proofs.lemmas.List.Sums.{sum_by-set}
use Rattle.mp_task.proofs.Agreeing.{Contains-slice_get}
use Rattle.mp_world.specs.AgentWords.{AgentTask, ActFits, IsWithinLimits, task_of, Event, State, Local, AgentRecord, local, Step, with_state}
use Rattle.mp_world.specs.SearchWords.{Numbers, Entry, AgentState, expanded, SearchRecord}
use Rattle.mp_world.specs.Team.{AreTeamTasks}
use Rattle.mp_world.specs.Values.{Values}
use Rattle.mp_world.specs.World.{IsTeamWorld, World, agent_at, with_agent}
use Rattle.mp_world.specs.Events.{agent_of, local_of, taken}
use Rattle.mp_world.specs.Steps.{IsStepOf}
use Rattle.mp_world.proofs.Agents.{agent_there, agree_numbered, member_of}
use Rattle.mp_world.proofs.Mail.{agent_at-other, agent_at-same}
use Rattle.mp_team_states.specs.Room.{AreSmall, HasSmallValues, IsSmall, expanded_by_all}
use Rattle.mp_team_states.specs.Sent.{IsSentIn}
use Rattle.mp_team_states.specs.Sound.{AreStatesSound, IsSentState, IsSoundState}
use Rattle.mp_team_states.proofs.Expanding.{expanded_counts}
use Rattle.mp_team_states.proofs.GoodStates.{tells_of_entry}
use Rattle.mp_team_states.proofs.NewEntries.{Comes, IsHeardIn, IsLedIn, entry_comes}
use Rattle.mp_team_states.proofs.ReachedEntries.{HasIt, entry_in, has_it}
use Rattle.mp_team_states.proofs.StepsSound.{agent_of_task, task_at}
use Rattle.mp_team_states.proofs.WorldsGrow.{search_holds}

-- ---- how many entries are expanded

abbrev count : AgentRecord → ℕ
count r = r.search.expansions

-- no fewer than before
local_counts : (value : Numbers → Numbers → Option ℕ) (r : AgentRecord) (s : Step) (event : Local) (bytes : List ℕ)
    → local value r event bytes ≡ Ok s → count r ≤ count s.after
unfolding with_state
local_counts value r s event bytes is =
    search_holds value r event bytes (λ (s : Step). count r ≤ count s.after) (record {
      expands = λ at. by (expanded_counts r.task value r.search);
      receives = λ from m at reads. omega arith;
      quiet = λ s quiet. let same = ap (λ (x : SearchRecord). x.expansions) quiet.search_is in omega arith;
    }) s is
  where
    by : ((expanded r.task value r.search).1 ≡ r.search)
        ⊎ ((expanded r.task value r.search).1.expansions ≡ r.search.expansions + 1)
        → count r ≤ (expanded r.task value r.search).1.expansions
    by (inl same) = let e = ap (λ (x : SearchRecord). x.expansions) same in omega arith
    by (inr one) = omega arith

same_by_get : {X : Type 0} (xs ys : List X) → ((k : ℕ) → slice_get xs k ≡ slice_get ys k) → xs ≡ ys
same_by_get [] [] same = refl
same_by_get [] (y ∷ ys) same = absurd (none-some y (same 0))
same_by_get (x ∷ xs) [] same = absurd (none-some x (sym (same 0)))
same_by_get (x ∷ xs) (y ∷ ys) same =
    let first = same_Some x y (same 0) in
    let rest = same_by_get xs ys (λ k. same (suc k)) in
    λ j. first j ∷ rest j

module _ (value : Values) (w next : World) (event : Event) (is : IsStepOf value w event next) where
  agents_are : next.agents ≡ (with_agent w (agent_of event) is.step.after).agents
  agents_are = same_by_get next.agents (with_agent w (agent_of event) is.step.after).agents (λ k. by k (cases_eq (suc k) (agent_of event)))
    where
      by : (k : ℕ) → (suc k ≡ agent_of event) ⊎ (suc k ≡ agent_of event → ⊥) → agent_at next (suc k) ≡ agent_at (with_agent w (agent_of event) is.step.after) (suc k)
      by k (inl same) =
          ap (agent_at next) same ∙ is.after
          ∙ sym (ap (agent_at (with_agent w (agent_of event) is.step.after)) same ∙ agent_at-same w (agent_of event) is.agent is.step.after is.there)
      by k (inr other) = is.others (suc k) other ∙ sym (agent_at-other w (agent_of event) (suc k) is.agent is.step.after is.there other)

  -- a sum over all agents changes as the event's agent does
  pub sum_more : (part : AgentRecord → ℕ) → sum_by part next.agents + part is.agent ≡ sum_by part w.agents + part is.step.after
  sum_more part =
      ap (λ (rs : List AgentRecord). sum_by part rs + part is.agent) agents_are ∙ by (agent_of event) is.there
    where
      by : (a : ℕ) → agent_at w a ≡ Some is.agent → sum_by part (slice_set w.agents (a - 1) is.step.after) + part is.agent ≡ sum_by part w.agents + part is.step.after
      by zero there = absurd (none-some is.agent there)
      by (suc k) there =
          let place : suc k - 1 ≡ k = omega arith in
          let inside = slice_get_within w.agents k is.agent there in
          let at : get_or w.agents (suc k - 1) is.agent ≡ is.agent = ap (λ (i : ℕ). get_or w.agents i is.agent) place ∙ get_or_from_slice_get w.agents k is.agent is.agent there in
          ap (λ (r : AgentRecord). sum_by part (slice_set w.agents (suc k - 1) is.step.after) + part r) (sym at)
          ∙ sum_by-set part w.agents (suc k - 1) is.step.after is.agent (omega arith)

  -- all agents together: what the event's agent expanded more
  counts_more : expanded_by_all next + count is.agent ≡ expanded_by_all w + count is.step.after
  counts_more = sum_more count

  pub counts_grow : expanded_by_all w ≤ expanded_by_all next
  counts_grow =
      let more = counts_more in
      let least = local_counts (value is.agent.task) is.agent is.step (local_of event) (taken w event) is.local in
      omega arith

-- ---- an event

small_more : (x y : ℕ) (e f : Entry AgentState) → x ≤ y → f.g ≡ e.g → f.h ≡ e.h → IsSmall x e → IsSmall y f
small_more x y e f more g_is h_is small = record {
  cost = let c = small.cost in omega arith;
  estimate = let h = small.estimate in omega arith;
}

pub small_value : (o : Option ℕ) (h : ℕ) → IfSome o (λ h. h < 2 ^ 50) → o ≡ Some h → h < 2 ^ 50
small_value None h small is = absurd (none-some h is)
small_value (Some x) h small is = subst (λ (n : ℕ). n < 2 ^ 50) (same_Some x h is) small

small_greater : (o : Option ℕ) (m h : ℕ) → IfSome o (λ h. h < 2 ^ 50) → m < 2 ^ 50 → option_map (max m) o ≡ Some h → h < 2 ^ 50
small_greater None m h small below is = absurd (none-some h is)
small_greater (Some x) m h small below is = subst (λ (n : ℕ). n < 2 ^ 50) (same_Some (max m x) h is) (omega arith)

-- a state that was sent costs what its entry does
pub sent_small : (tasks : List AgentTask) (are : AreTeamTasks tasks) (w : World) (team : IsTeamWorld tasks w) (sound : AreStatesSound tasks w)
    → AreSmall w → (sender : ℕ) (u : AgentTask) (m : State) → task_of tasks sender ≡ Some u → IsSoundState w u m
    → (m.g ≤ 16000000 * expanded_by_all w) × (m.h < 2 ^ 50)
sent_small tasks are w team sound small sender u m at state =
    let found = agent_there w sender (agent_of_task tasks are w team sender u at) in
    by found.0 found.1
  where
    by : (r : AgentRecord) → agent_at w sender ≡ Some r → (m.g ≤ 16000000 * expanded_by_all w) × (m.h < 2 ^ 50)
    by r there =
        let same : u ≡ r.task = same_Some u r.task (sym at ∙ task_at tasks are w team sender r there) in
        let me = (member_of tasks (agree_numbered tasks are.agree) w team sender r there).me in
        let sent_by : IsSentState w r.task m = subst (λ (u : AgentTask). IsSentState w u m) same state.sent in
        let sent : IsSentIn r.task r.search.kept m =
        subst (λ (o : Option AgentRecord). IsSomeAnd o (λ x. IsSentIn r.task x.search.kept m)) (ap (agent_at w) me ∙ there) sent_by
        in
        let tells = tells_of_entry tasks are w team sound sender r m sent.number sent.entry there sent_by sent.sent sent.there in
        let x = small sender sent.number sent.entry (entry_in w sender sent.number r sent.entry there sent.there) in
        let g_is = tells.1 in
        let h_is = tells.2 in
        let cost = x.cost in
        let estimate = x.estimate in
        (omega arith, omega arith)

module _ (tasks : List AgentTask) (are : AreTeamTasks tasks) (w : World) (team : IsTeamWorld tasks w) (sound : AreStatesSound tasks w)
    (small : AreSmall w) (value : Values) (values : HasSmallValues value tasks) (next : World) (event : Event)
    (is : IsStepOf value w event next) where
  here : Contains tasks is.agent.task
  here = (member_of tasks (agree_numbered tasks are.agree) w team (agent_of event) is.agent is.there).task

  old_small : (agent number : ℕ) (r : AgentRecord) (old e : Entry AgentState) → agent_at w agent ≡ Some r → slice_get r.search.kept.entries number ≡ Some old
      → e.g ≡ old.g → e.h ≡ old.h → IsSmall (expanded_by_all next) e
  old_small agent number r old e there at g_is h_is =
      small_more (expanded_by_all w) (expanded_by_all next) old e (counts_grow value w next event is) g_is h_is (small agent number old (entry_in w agent number r old there at))

  led_small : (n : ℕ) (e : Entry AgentState) → IsLedIn (value is.agent.task) is.agent is.step.after.search n e → IsSmall (expanded_by_all next) e
  led_small n e led =
      let old = small (agent_of event) led.parent led.old (entry_in w (agent_of event) led.parent is.agent led.old is.there led.was) in
      let fit = All-contains IsWithinLimits tasks is.agent.task are.within here in
      let acts = All-contains (ActFits is.agent.task.publics is.agent.task.privates) is.agent.task.acts led.act fit.acts (Contains-slice_get is.agent.task.acts led.action led.act led.own) in
      let price = acts.cost in
      let before = old.cost in
      let g_is = led.g_is in
      let same = led.same in
      let one = led.counted in
      let more = counts_more value w next event is in
      record {
        cost = omega arith;
        estimate = small_value (value is.agent.task e.key.publics e.key.mine) e.h (values is.agent.task e.key.publics e.key.mine here) led.h_is;
      }

  heard_small : (e : Entry AgentState) → IsHeardIn (value is.agent.task) tasks w is.agent e → IsSmall (expanded_by_all next) e
  heard_small e heard =
      let m = heard.message in
      let sent = sent_small tasks are w team sound small heard.sender heard.task m heard.at heard.state in
      let more = counts_grow value w next event is in
      let before = sent.0 in
      let g_is = heard.g_is in
      record {
        cost = omega arith;
        estimate = small_greater (value is.agent.task e.key.publics e.key.mine) m.h e.h (values is.agent.task e.key.publics e.key.mine here) sent.1 heard.h_is;
      }

  pub event_small : AreSmall next
  event_small agent number e has = by (cases_eq agent (agent_of event))
    where
      h : HasIt next agent number e
      h = has_it next agent number e has

      new : Comes (value is.agent.task) tasks w is.agent is.step number e → IsSmall (expanded_by_all next) e
      new (inl old) = old_small (agent_of event) number is.agent old.old e is.there old.there old.alike.g old.alike.h
      new (inr (inl led)) = led_small number e led
      new (inr (inr heard)) = heard_small e heard

      by : (agent ≡ agent_of event) ⊎ (agent ≡ agent_of event → ⊥) → IsSmall (expanded_by_all next) e
      by (inl same) =
          let one : h.agent_is ≡ is.step.after = same_Some h.agent_is is.step.after (sym h.there ∙ ap (agent_at next) same ∙ is.after) in
          new (entry_comes tasks are w team sound value next event is number e (subst (λ (r : AgentRecord). slice_get r.search.kept.entries number ≡ Some e) one h.at))
      by (inr other) = old_small agent number h.agent_is e e (sym (is.others agent other) ∙ h.there) h.at refl refl
