-- Which entries come in an event: own actions led to them, or a state that another agent sent.
use Rattle.mp_world.proofs.Basics.{◌≡◌, ℕ, ◌+◌, ◌<◌, ◌⊎◌, true, List, [], Option, Some, sym, ap, ◌∙◌, arith, inl, inr, Contains, slice_get, Contains-get_or, slice_get_within}
use Rattle.mp_messages.specs.declared.message.Message.TheVariants as kinds
use Rattle.mp_machine.specs.declared.event.Local.TheVariants as locals
use Rattle.mp_world.specs.AgentWords.{Act, AgentTask, task_of, Event, Expand, Take, Start, State, message_of, AgentRecord, with_search, Step, without_messages, with_state}
use Rattle.mp_world.specs.SearchWords.{Numbers, Entry, Own, From, Record, Sending, AgentState, applies, successor, expanded, own_value, greater_value, received, state_of, SearchRecord}
use Rattle.mp_world.specs.Team.{AreTeamTasks}
use Rattle.mp_world.specs.Values.{Values}
use Rattle.mp_world.specs.World.{IsTeamWorld, World, under_way}
use Rattle.mp_world.specs.Events.{local_of, taken}
use Rattle.mp_world.specs.Steps.{IsStepOf}
use Rattle.mp_world.proofs.Agents.{agent_there, agree_numbered, sender_of}
use Rattle.mp_team_states.specs.Sound.{AreStatesSound, IsSoundState}
use Rattle.mp_team_states.proofs.Entries.{IsNew, IsOld, alike_itself, changes_entry}
use Rattle.mp_team_states.proofs.Expanding.{IsReceived, Led, expanded_changes, expanded_counts, received_changes}
use Rattle.mp_team_states.proofs.GoodStates.{what_is_read}
use Rattle.mp_team_states.proofs.Quiet.{IsQuiet}
use Rattle.mp_team_states.proofs.StepsSound.{not_none, task_at}
use Rattle.mp_team_states.proofs.WorldsGrow.{search_holds}

-- an own action led to an entry from an earlier one
pub record IsLedIn (value : Numbers → Numbers → Option ℕ) (r : AgentRecord) (after : SearchRecord) (n : ℕ) (e : Entry AgentState) : Type 0 where
  pub action : ℕ
  pub parent : ℕ
  pub act : Act
  pub from : Entry AgentState
  pub own : slice_get r.task.acts action ≡ Some act
  pub there : slice_get after.kept.entries parent ≡ Some from
  pub earlier : parent < n
  pub old : Entry AgentState
  pub was : slice_get r.search.kept.entries parent ≡ Some old
  pub same : from.g ≡ old.g
  pub counted : after.expansions ≡ r.search.expansions + 1
  pub may : applies act from.key ≡ true
  pub key : e.key ≡ successor act from.key
  pub g_is : e.g ≡ from.g + act.cost
  pub h_is : own_value r.task value e.key ≡ Some e.h
  pub origin : e.origin ≡ Own action parent

-- an entry is of a state that another agent sent
pub record IsHeardIn (value : Numbers → Numbers → Option ℕ) (tasks : List AgentTask) (w : World) (r : AgentRecord) (e : Entry AgentState) : Type 0 where
  pub sender : ℕ
  pub task : AgentTask
  pub message : State
  pub at : task_of tasks sender ≡ Some task
  pub state : IsSoundState w task message
  pub key : e.key ≡ state_of r.task r.search.kept message
  pub g_is : e.g ≡ message.g
  pub h_is : greater_value r.task value message.h e.key ≡ Some e.h
  pub origin : e.origin ≡ From sender message.sent

-- an entry of an agent after an event
abbrev pub Comes
    : (Numbers → Numbers → Option ℕ)
    → List AgentTask
    → World
    → AgentRecord
    → Step
    → ℕ
    → Entry AgentState
    → Type 0
Comes value tasks w r s n e =
    IsOld r.search.kept n e ⊎ (IsLedIn value r s.after.search n e ⊎ IsHeardIn value tasks w r e)

module _ (value : Numbers → Numbers → Option ℕ) (tasks : List AgentTask) (w : World) (r : AgentRecord) where
  old_only : (s : Step) → IsQuiet r.task r.limit r.search s → (n : ℕ) (e : Entry AgentState) → slice_get s.after.search.kept.entries n ≡ Some e → Comes value tasks w r s n e
  old_only s quiet n e at = inl (record {
    old = e;
    there = ap (λ (x : SearchRecord). slice_get x.kept.entries n) (sym quiet.search_is) ∙ at;
    alike = alike_itself e;
  })

  expanded_comes : (n : ℕ) (e : Entry AgentState)
      → slice_get (expanded r.task value r.search).1.kept.entries n ≡ Some e → Comes value tasks w r (with_search r (expanded r.task value r.search)) n e
  expanded_comes n e at = both (expanded_counts r.task value r.search) (changes_entry (Led r.task value r.search.kept) r.task r.search.kept d.1.kept d.0 (expanded_changes r.task value r.search) n e at)
    where
      d : List Sending × SearchRecord
      d = expanded r.task value r.search

      both : (d.1 ≡ r.search) ⊎ (d.1.expansions ≡ r.search.expansions + 1) → IsOld r.search.kept n e ⊎ IsNew (Led r.task value r.search.kept) r.task d.1.kept n e
          → Comes value tasks w r (with_search r d) n e
      both (inl same) any = inl (record {
        old = e;
        there = ap (λ (x : SearchRecord). slice_get x.kept.entries n) (sym same) ∙ at;
        alike = alike_itself e;
      })
      both (inr counted) (inl old) = inl old
      both (inr counted) (inr new) =
          let led = new.comes in
          let from = new.grown.entries led.parent led.from led.there in
          let inside = slice_get_within new.before.entries led.parent led.from led.there in
          let number = new.number in
          inr (inl (record {
            action = led.action;
            parent = led.parent;
            act = led.act;
            from = from.0;
            own = led.own;
            there = from.1;
            earlier = omega arith;
            old = led.old;
            was = led.was;
            same = from.2.g ∙ led.same;
            counted = counted;
            may = ap (λ (s : AgentState). applies led.act s) from.2.key ∙ led.may;
            key = new.alike.key ∙ led.is.key ∙ ap (λ (s : AgentState). successor led.act s) (sym from.2.key);
            g_is = new.alike.g ∙ led.is.g ∙ ap (λ (g : ℕ). g + led.act.cost) (sym from.2.g);
            h_is =
                ap (own_value r.task value) (new.alike.key ∙ led.is.key) ∙ led.is.h ∙ ap (λ (h : ℕ). Some h) (sym new.alike.h);
            origin = new.alike.origin ∙ led.is.origin;
          }))

  received_comes : (sender : ℕ) (u : AgentTask) (m : State) → task_of tasks sender ≡ Some u → IsSoundState w u m
      → (n : ℕ) (e : Entry AgentState) → slice_get (received r.task value sender m r.search.kept).1.entries n ≡ Some e
      → IsOld r.search.kept n e ⊎ IsHeardIn value tasks w r e
  received_comes sender u m at_sender state n e at =
      by (changes_entry (IsReceived r.task value sender m r.search.kept) r.task r.search.kept last [] (received_changes r.task value sender m r.search.kept) n e at)
    where
      last : Record AgentState
      last = (received r.task value sender m r.search.kept).1

      by : IsOld r.search.kept n e ⊎ IsNew (IsReceived r.task value sender m r.search.kept) r.task last n e → IsOld r.search.kept n e ⊎ IsHeardIn value tasks w r e
      by (inl old) = inl old
      by (inr new) = inr (record {
        sender = sender;
        task = u;
        message = m;
        at = at_sender;
        state = state;
        key = new.alike.key ∙ new.comes.key;
        g_is = new.alike.g ∙ new.comes.g;
        h_is =
            ap (greater_value r.task value m.h) (new.alike.key ∙ new.comes.key) ∙ new.comes.h ∙ ap (λ (h : ℕ). Some h) (sym new.alike.h);
        origin = new.alike.origin ∙ new.comes.origin;
      })

module _ (tasks : List AgentTask) (are : AreTeamTasks tasks) (w : World) (team : IsTeamWorld tasks w) (sound : AreStatesSound tasks w)
    (value : Values) (next : World) where
  -- a state that is read is one that another agent sent
  sender_sent : (event : Event) (is : IsStepOf value w event next) (from : ℕ) (m : State) → local_of event ≡ locals.Take from
      → message_of is.agent.task.agents is.agent.task.publics (taken w event) ≡ Some (kinds.State m)
      → (u : AgentTask) × (task_of tasks from ≡ Some u) × IsSoundState w u m
  sender_sent (Expand agent) is from m e reads = absurd (let impossible : ⊥ = cc in impossible)
  sender_sent Start is from m e reads = absurd (let impossible : ⊥ = cc in impossible)
  sender_sent (Take by a) is from m e reads =
      let sender = sender_of tasks (agree_numbered tasks are.agree) w team by a is.agent is.there is.may in
      let other = agent_there w a sender.0 in
      let at : task_of tasks a ≡ Some other.0.task = task_at tasks are w team a other.0 other.1 in
      let here : Contains (under_way w a by) (taken w (Take by a)) =
      Contains-get_or (under_way w a by) 0 [] (not_none (under_way w a by) is.message)
      in
      let read =
      what_is_read tasks are w team sound a by other.0.task is.agent at is.there (taken w (Take by a)) m here reads
      in
      let same : from ≡ a = cc in
      (other.0.task, ap (task_of tasks) same ∙ at, read.1)

  pub entry_comes : (event : Event) (is : IsStepOf value w event next) (n : ℕ) (e : Entry AgentState)
      → slice_get is.step.after.search.kept.entries n ≡ Some e
      → Comes (value is.agent.task) tasks w is.agent is.step n e
  unfolding with_state
  entry_comes event is n e at =
      let r = is.agent in
      let v = value r.task in
      search_holds v r (local_of event) (taken w event)
      (λ (s : Step). slice_get s.after.search.kept.entries n ≡ Some e → Comes v tasks w r s n e) (record {
        expands = λ here. expanded_comes v tasks w r n e;
        receives = λ from m here reads at.
            let sent = sender_sent event is from m here reads in
            either from m (received_comes v tasks w r from sent.0 m sent.1 sent.2 n e at);
        quiet = λ s quiet. old_only v tasks w r s quiet n e;
      }) is.step is.local at
    where
      either : (from : ℕ) (m : State) → IsOld is.agent.search.kept n e ⊎ IsHeardIn (value is.agent.task) tasks w is.agent e
          → Comes (value is.agent.task) tasks w is.agent
          (without_messages (with_state (value is.agent.task) is.agent from m)) n e
      either from m (inl old) = inl old
      either from m (inr heard) = inr (inr heard)
