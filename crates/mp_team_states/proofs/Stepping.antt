-- What an event does to what its agent keeps and sent, and to the messages under way.
use Rattle.mp_world.proofs.Basics.{◌≡◌, ℕ, ◌+◌, ◌<◌, ◌^◌, ◌⊎◌, Bool, true, List, [], ◌∷◌, map, Option, Some, refl, sym, ap, subst, ◌∙◌, inl, inr, Contains, drop, slice_get, slice_index_or, ◌==◌, if◌then◌else◌, filter, flat_map, and_parts, eq-eqb, All-contains}
use Rattle.mp_world.proofs.Basics.{Contains-append_left, Contains-append_right}
use Rattle.mp_list.proofs.Members.{contains_cases, no_member, to_flat_map, to_map}
use Rattle.mp_messages.specs.declared.message.Message.TheVariants as kinds
use Rattle.mp_store.proofs.RankLemmas.{member_kept}
use Rattle.mp_machine.specs.declared.event.Local.TheVariants as locals
use Rattle.mp_world.specs.AgentWords.{Act, AgentTask, ActFits, IsWithinLimits, Event, Expand, Take, Message, spelling, Local, Out, AgentRecord, is_going, may, outgoing_of, with_search, Step, in_bytes, with_state}
use Rattle.mp_world.specs.SearchWords.{Numbers, Entry, Sending, AgentState, successor, expanded, own_value, IsStateFor, received, SearchRecord, may_expand}
use Rattle.mp_world.specs.Events.{agent_of, local_of, taken, without_taken}
use Rattle.mp_world.specs.Steps.{IsStepOf, sent_between, sent_to}
use Rattle.mp_world.specs.Team.{AreTeamTasks}
use Rattle.mp_world.specs.Values.{Values}
use Rattle.mp_world.specs.World.{IsAgent, IsTeamWorld, World, agent_at, under_way}
use Rattle.mp_team_states.specs.Room.{AreSmall, HasSmallValues}
use Rattle.mp_team_states.specs.Sent.{IsSentIn}
use Rattle.mp_team_states.specs.Sound.{AreStatesSound}
use Rattle.mp_team_states.proofs.LocalStates.{GoesOut as GoesOutSound, IsSoundStep, expansion_sound}
use Rattle.mp_team_states.proofs.Quiet.{IsQuiet}
use Rattle.mp_team_states.proofs.RoomLemmas.{small_value}
use Rattle.mp_team_states.proofs.StepsSound.{agent_sound, left_is, limits_of}
use Rattle.mp_team_states.proofs.WorldsGrow.{search_holds}
use Rattle.mp_team_states.proofs.Expanded.{HasExpanded, gone_on, has_expanded, received_continues}
use Rattle.mp_team_states.proofs.Continuing.{continues_same}
use Rattle.mp_team_states.proofs.SoundWorlds.{entry_room, task_in}

-- What a step does: what its agent keeps and sent, and that each sending goes out to each agent that it is for.
pub record HasStepped (value : Numbers → Numbers → Option ℕ) (r : AgentRecord) (s : Step) : Type 0 where
  pub task : s.after.task ≡ r.task
  pub out : List Sending
  pub done : HasExpanded r.task value r.search.kept out s.after.search.kept
  pub goes : (x : Sending) → Contains out x → (to : ℕ) → Contains x.to to
      → Contains s.out (record { to = to; message = kinds.State x.state }) × IsStateFor r.task x.state × IsSentIn r.task s.after.search.kept x.state

-- a step that leaves the search as it is
quiet_stepped : (value : Numbers → Numbers → Option ℕ) (r : AgentRecord) (s : Step) → IsQuiet r.task r.limit r.search s → HasStepped value r s
quiet_stepped value r s quiet = record {
  task = quiet.task;
  out = [];
  done = subst (λ (x : SearchRecord). HasExpanded r.task value r.search.kept [] x.kept) (sym quiet.search_is) (gone_on r.task value r.search.kept r.search.kept [] (continues_same r.task r.search.kept));
  goes = λ x here. absurd (no_member x here);
}

module _ (tasks : List AgentTask) (are : AreTeamTasks tasks) (w : World) (team : IsTeamWorld tasks w) (sound : AreStatesSound tasks w) where
  module _ (small : AreSmall w) (value : Values) (values : HasSmallValues value tasks) (agent : ℕ) (r : AgentRecord) (there : agent_at w agent ≡ Some r) where
    -- an expansion
    expand_stepped : may_expand r.limit r.search ≡ true → HasStepped (value r.task) r (with_search r (expanded r.task (value r.task) r.search))
    expand_stepped may = record {
      task = refl;
      out = d.0;
      done = has_expanded r.task (value r.task) r.search (λ n e act h at here is. room n e act h at here is);
      goes = λ x here to for.
          let goes : Contains (flat_map outgoing_of d.0) (record { to = to; message = kinds.State x.state }) =
          to_flat_map outgoing_of d.0 x (record { to = to; message = kinds.State x.state }) here
          (to_map (λ (agent : ℕ). record { to = agent; message = kinds.State x.state }) x.to to for)
          in
          let fits = All-contains (GoesOutSound r.task d.1.kept) (flat_map outgoing_of d.0) (record { to = to; message = kinds.State x.state }) whole.out goes in
          (goes, fits.0, fits.1);
    }
      where
        d : List Sending × SearchRecord
        d = expanded r.task (value r.task) r.search

        fit : IsWithinLimits r.task
        fit = limits_of tasks are w team agent r there

        whole : IsSoundStep w r.task (with_search r d)
        whole = expansion_sound w r fit (agent_sound tasks are w team sound agent r there) (value r.task) may

        room : (n : ℕ) (e : Entry AgentState) (act : Act) (h : ℕ) → slice_get r.search.kept.entries n ≡ Some e → Contains r.task.acts act
            → own_value r.task (value r.task) (successor act e.key) ≡ Some h → e.g + act.cost + h < 2 ^ 60
        room n e act h at here is =
            let s = successor act e.key in
            let price = (All-contains (ActFits r.task.publics r.task.privates) r.task.acts act fit.acts here).cost in
            entry_room tasks are w team sound small agent n r e there at act.cost h price
            (small_value (value r.task s.publics s.mine) h (values r.task s.publics s.mine (task_in tasks are w team agent r there)) is)

  module _ (value : Values) (next : World) where
    pub event_stepped : AreSmall w → HasSmallValues value tasks → (event : Event) (is : IsStepOf value w event next)
        → HasStepped (value is.agent.task) is.agent is.step
    unfolding with_state
    event_stepped small values event is =
        let r = is.agent in
        search_holds (value r.task) r (local_of event) (taken w event) (HasStepped (value r.task) r) (record {
          expands = λ at.
              let may : may r locals.Expand ≡ true = subst (λ (e : Local). may r e ≡ true) at is.may in
              expand_stepped small value values (agent_of event) r is.there
              (and_parts (is_going r.ending) (may_expand r.limit r.search) may).1;
          receives = λ from m at reads. record {
            task = refl;
            out = [];
            done =
                gone_on r.task (value r.task) r.search.kept (received r.task (value r.task) from m r.search.kept).1 []
                (received_continues r.task (value r.task) from m r.search.kept);
            goes = λ y here. absurd (no_member y here);
          };
          quiet = quiet_stepped (value r.task) r;
        }) is.step is.local

    -- ---- messages under way

    first_or_later : (xs : List (List ℕ)) (x : List ℕ) → Contains xs x → (slice_index_or xs 0 [] ≡ x) ⊎ Contains (drop 1 xs) x
    first_or_later [] x here = absurd (no_member x here)
    first_or_later (y ∷ ys) x here = contains_cases y ys x here

    -- a message is still under way, or it is the one that is taken
    pub still_there : (event : Event) → IsStepOf value w event next → (from to : ℕ) → IsAgent w from → IsAgent w to → (bytes : List ℕ) → Contains (under_way w from to) bytes
        → Contains (under_way (without_taken w event) from to) bytes ⊎ ((event ≡ Take to from) × (taken w event ≡ bytes))
    still_there event is from to sender receiver bytes here = by (left_is tasks are w team sound value next event is from to sender receiver)
      where
        by : (under_way (without_taken w event) from to ≡ under_way w from to)
            ⊎ ((event ≡ Take to from) × (under_way (without_taken w event) from to ≡ drop 1 (under_way w from to)))
            → Contains (under_way (without_taken w event) from to) bytes ⊎ ((event ≡ Take to from) × (taken w event ≡ bytes))
        by (inl same) = inl (subst (λ (ms : List (List ℕ)). Contains ms bytes) (sym same) here)
        by (inr gone) =
            elim (first_or_later (under_way w from to) bytes here) [
              | inl first ↦ inr (gone.0, ap (taken w) gone.0 ∙ first)
              | inr later ↦ inl (subst (λ (ms : List (List ℕ)). Contains ms bytes) (sym gone.1) later)
            ]

    module _ (event : Event) (is : IsStepOf value w event next) where
      pub stays_under_way : (from to : ℕ) → IsAgent w from → IsAgent w to → (bytes : List ℕ) → Contains (under_way (without_taken w event) from to) bytes → Contains (under_way next from to) bytes
      stays_under_way from to sender receiver bytes here =
          subst (λ (ms : List (List ℕ)). Contains ms bytes) (sym (is.mail from to sender receiver))
          (Contains-append_left (under_way (without_taken w event) from to) (sent_between event is.step from to) bytes here)

      -- what goes out is under way
      pub out_is_under_way : (to : ℕ) (m : Message) → IsAgent w (agent_of event) → IsAgent w to → Contains is.step.out (record { to = to; message = m }) → Contains (under_way next (agent_of event) to) (spelling m)
      out_is_under_way to m sender receiver here =
          let out : Out = record { to = to; bytes = spelling m } in
          let all = map in_bytes is.step.out in
          let one : Contains all out = to_map in_bytes is.step.out (record { to = to; message = m }) here in
          let for : Contains (filter (λ (x : Out). x.to == to) all) out = member_kept (λ (x : Out). x.to == to) all out one (eq-eqb to to refl) in
          let goes : Contains (sent_to to all) (spelling m) = to_map (λ (x : Out). x.bytes) (filter (λ (x : Out). x.to == to) all) out for in
          let between : Contains (sent_between event is.step (agent_of event) to) (spelling m) =
          subst (λ (b : Bool). Contains (if b then sent_to to all else []) (spelling m)) (sym (eq-eqb (agent_of event) (agent_of event) refl)) goes
          in
          subst (λ (ms : List (List ℕ)). Contains ms (spelling m)) (sym (is.mail (agent_of event) to sender receiver))
          (Contains-append_right (under_way (without_taken w event) (agent_of event) to) (sent_between event is.step (agent_of event) to) (spelling m) between)
