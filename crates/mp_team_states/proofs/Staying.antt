-- At an event what is reached stays reached, and what is sent is reached.
use Rattle.mp_world.proofs.Basics.{◌≡◌, ℕ, ◌+◌, ◌<◌, ◌≤◌, ◌^◌, ◌⊎◌, List, length, Option, Some, None, refl, sym, ap, subst, ◌∙◌, arith, inl, inr, Contains, IsSomeAnd, Ok, slice_get, cases_eq, All-contains, same_Some}
use Rattle.mp_task.proofs.Agreeing.{Contains-slice_get}
use Rattle.mp_messages.specs.declared.message.Message.TheVariants as kinds
use Rattle.mp_reach.specs.Explored.{HasEntry, HasMessage}
use Rattle.mp_reach.specs.Found.{Entry as Seen, Message as Sent}
use Rattle.mp_reach.proofs.Changing.{reached_at_more}
use Rattle.mp_reach.specs.LeadsOn.{IsTeamExploredFor, IsTeamHopelessFor, Known, LeadsOn, TeamReachesFor}
use Rattle.mp_world.specs.AgentWords.{AgentTask, JointState, task_of, Event, Take, State, message_of, spelling, AgentRecord, Step, without_messages, took, with_state}
use Rattle.mp_world.specs.SearchWords.{Entry, Record, AgentState, receivers, greater_value, received, state_of}
use Rattle.mp_world.specs.Events.{agent_of, taken, without_taken}
use Rattle.mp_world.specs.Joint.{joint, joint_told}
use Rattle.mp_world.specs.Steps.{IsStepOf}
use Rattle.mp_world.specs.Team.{AreTeamTasks}
use Rattle.mp_world.specs.Values.{Values}
use Rattle.mp_world.specs.World.{IsAgent, IsTeamWorld, World, agent_at, under_way}
use Rattle.mp_world.proofs.Agents.{agree_numbered}
use Rattle.mp_world.proofs.Mail.{agent_of_team}
use Rattle.mp_team_states.specs.Further.{HaveGrown, HaveSoundRecords}
use Rattle.mp_team_states.specs.Room.{AreSmall}
use Rattle.mp_team_states.specs.Sent.{IsSentIn}
use Rattle.mp_team_states.specs.Sound.{AreStatesSound, IsSoundState, IsStateOf}
use Rattle.mp_team_states.proofs.GoodStates.{receiver_knows, tells_of_entry, what_is_read}
use Rattle.mp_team_states.proofs.StartSound.{some_item}
use Rattle.mp_team_states.proofs.StepsSound.{agent_sound, limits_of, read_state, records_sound, state_heard, task_at}
use Rattle.mp_team_states.proofs.WorldsGrow.{joint_same, joint_told_same, state_taken, step_grows, took_read}
use Rattle.mp_team_states.specs.TeamFound.{found_of, on_its_way, seen_entry, sent_to}
use Rattle.mp_team_states.proofs.Expanded.{received_is_kept}
use Rattle.mp_team_states.proofs.Found.{IsFoundMessage, entry_found, found_entry, found_message, message_found, sent_found}
use Rattle.mp_team_states.proofs.Continuing.{GoesOut}
use Rattle.mp_team_states.proofs.SoundWorlds.{IsHeuristicFor, greater_none, greater_small, me_is, message_estimate, message_room, other_there, own_hopeless, states_known, task_in}
use Rattle.mp_team_states.proofs.Joint.{receiver_is}
use Rattle.mp_team_states.proofs.Kept.{IsKept}
use Rattle.mp_team_states.proofs.Stepping.{HasStepped, event_stepped, out_is_under_way, stays_under_way, still_there}

-- a known joint state, by its parts
abbrev pub known : ℕ → JointState → Known
known agent s = record { agent = agent; state = s }

pub has_kept : (w : World) (agent : ℕ) (r : AgentRecord) (s : AgentState) (cost : ℕ) → agent_at w agent ≡ Some r → IsKept r.search.kept s cost → HasEntry (found_of w) (known agent (joint w agent s)) cost
has_kept w agent r s cost there kept = record {
  index = (agent, kept.number);
  entry = seen_entry w agent kept.entry;
  there = entry_found w agent kept.number r kept.entry there kept.at;
  of = ap (λ (s : AgentState). known agent (joint w agent s)) kept.key;
  within = kept.within;
}

module _ (tasks : List AgentTask) (are : AreTeamTasks tasks) (w : World) (team : IsTeamWorld tasks w) (sound : AreStatesSound tasks w)
    (small : AreSmall w) {Goal : Known → Type 0} (value : Values) (heuristic : IsHeuristicFor Goal value tasks) (next : World) (later_team : IsTeamWorld tasks next)
    (later_sound : AreStatesSound tasks next) where
  -- ---- an event

  module _ (event : Event) (is : IsStepOf value w event next) where
    grown : HaveGrown w next
    grown = step_grows value w next event is

    records : HaveSoundRecords w
    records = records_sound tasks are w team sound

    -- joint states are as they were
    pub same_joint : (agent : ℕ) (r : AgentRecord) (s : AgentState) → agent_at w agent ≡ Some r → IsStateOf w r.task s → joint next agent s ≡ joint w agent s
    same_joint agent r s there is_known =
        let me = me_is tasks are w team agent r there in
        (λ j. joint next (sym me j) s) ∙ joint_same w next records grown r.task s is_known ∙ (λ j. joint w (me j) s)

    -- an entry in the later world
    pub record IsLater (agent n : ℕ) (r : AgentRecord) (e : Entry AgentState) : Type 0 where
      pub agent_is : AgentRecord
      pub there : agent_at next agent ≡ Some agent_is
      pub task : agent_is.task ≡ r.task
      pub entry : Entry AgentState
      pub at : slice_get agent_is.search.kept.entries n ≡ Some entry
      pub key : entry.key ≡ e.key
      pub cost : entry.g ≡ e.g
      pub joint_is : joint next agent entry.key ≡ joint w agent e.key

    pub later_entry : (agent n : ℕ) (r : AgentRecord) (e : Entry AgentState) → agent_at w agent ≡ Some r → slice_get r.search.kept.entries n ≡ Some e → IsLater agent n r e
    later_entry agent n r e there at =
        let further = grown agent r there in
        let x = further.2.kept.entries n e at in
        record {
          agent_is = further.0;
          there = further.1;
          task = further.2.task;
          entry = x.0;
          at = x.1;
          key = x.2.key;
          cost = x.2.g;
          joint_is =
              ap (joint next agent) x.2.key ∙ same_joint agent r e.key there (states_known tasks are w team sound agent n r e there at);
        }

    entry_stays : (k : Known) (cost : ℕ) → HasEntry (found_of w) k cost → HasEntry (found_of next) k cost
    entry_stays k cost has =
        let f = found_entry w has.index has.entry has.there in
        let x = later_entry has.index.0 has.index.1 f.agent_is f.entry f.there f.at in
        let within = has.within in
        let was : has.entry.cost ≡ f.entry.g = ap (λ (e : Seen Known). e.cost) f.is in
        let same = x.cost in
        record {
          index = (has.index.0, has.index.1);
          entry = seen_entry next has.index.0 x.entry;
          there = entry_found next has.index.0 has.index.1 x.agent_is x.entry x.there x.at;
          of = ap (known has.index.0) x.joint_is ∙ sym (ap (λ (e : Seen Known). e.state) f.is) ∙ has.of;
          within = omega arith;
        }

    -- a message that is taken leads to an entry of its state, or the state leads to no goal
    taken_reached : (from to : ℕ) (u : AgentTask) (r : AgentRecord) (bytes : List ℕ) (m : State) → IsStepOf value w (Take to from) next → taken w (Take to from) ≡ bytes
        → task_of tasks from ≡ Some u → agent_at w to ≡ Some r → IsSoundState w u m → message_of r.task.agents r.task.publics bytes ≡ Some (kinds.State m)
        → TeamReachesFor tasks Goal (found_of next) (known to (joint_told w m)) m.g
    unfolding with_state
    taken_reached from to u r bytes m step first at there state reads = by (received_is_kept r.task (value r.task) from m r.search.kept room)
      where
        s : AgentState
        s = state_of r.task r.search.kept m

        knows : IsStateOf w r.task s × (joint w to s ≡ joint_told w m)
        knows = receiver_knows tasks are w team sound from to u r at there m state

        room : (h : ℕ) → greater_value r.task (value r.task) m.h s ≡ Some h → m.g + h < 2 ^ 60
        room h is =
            message_room tasks are w team sound small from u m at state h
            (greater_small (value r.task s.publics s.mine) m.h h (heuristic.small r.task s.publics s.mine (task_in tasks are w team to r there))
            (message_estimate tasks are w team sound small from u m at state) is)

        one : step.agent ≡ r
        one = same_Some step.agent r (sym step.there ∙ there)

        did : took (value r.task) r from bytes ≡ Ok step.step
        did = (λ j. took (value (sym one j).task) (sym one j) from (sym first j)) ∙ step.local

        after : without_messages (with_state (value r.task) r from m) ≡ step.step
        after =
            state_taken (value r.task) r from m step.step
            (took_read (value r.task) r from bytes step.step (kinds.State m) did reads)

        last : Record AgentState
        last = (received r.task (value r.task) from m r.search.kept).1

        kept_is : step.step.after.search.kept ≡ last
        kept_is = ap (λ (x : Step). x.after.search.kept) (sym after)

        by : (greater_value r.task (value r.task) m.h s ≡ None) ⊎ IsKept last s m.g → TeamReachesFor tasks Goal (found_of next) (known to (joint_told w m)) m.g
        by (inl none) =
            inr (inr (subst (λ (x : JointState). IsTeamHopelessFor tasks Goal (known to x)) knows.1
            (own_hopeless tasks are w team sound value heuristic to r there s knows.0 to (greater_none (value r.task s.publics s.mine) m.h none))))
        by (inr kept) =
            inl (subst (λ (x : JointState). HasEntry (found_of next) (known to x) m.g) (same_joint to r s there knows.0 ∙ knows.1)
            (has_kept next to step.step.after s m.g step.after (subst (λ (x : Record AgentState). IsKept x s m.g) (sym kept_is) kept)))

    message_stays : (k : Known) (cost : ℕ) → HasMessage (found_of w) k cost → TeamReachesFor tasks Goal (found_of next) k cost
    message_stays k cost has = by (still_there tasks are w team sound value next event is f.from f.to sender receiver f.bytes f.here)
      where
        f : IsFoundMessage tasks (agree_numbered tasks are.agree) w team has.message
        f = found_message tasks (agree_numbered tasks are.agree) w team has.message has.there

        m : State
        m = f.state

        r : AgentRecord
        r = f.receiver

        sender : IsAgent w f.from
        sender = agent_of_team w f.from f.sender f.sender_there

        receiver : IsAgent w f.to
        receiver = agent_of_team w f.to f.receiver f.receiver_there

        at : task_of tasks f.from ≡ Some f.sender.task
        at = task_at tasks are w team f.from f.sender f.sender_there

        state : IsSoundState w f.sender.task m
        state = (what_is_read tasks are w team sound f.from f.to f.sender.task r at f.receiver_there f.bytes m f.here f.reads).1

        me : r.task.me ≡ f.to
        me = me_is tasks are w team f.to r f.receiver_there

        k_is : known f.to (joint_told w m) ≡ k
        k_is = ap (λ (a : ℕ). known a (joint_told w m)) (sym me) ∙ ap (λ (x : Sent Known). x.state) f.is ∙ has.of

        within : m.g ≤ cost
        within = let most = has.within in let same : m.g ≡ has.message.cost = ap (λ (x : Sent Known). x.cost) f.is in omega arith

        remains : Contains (under_way (without_taken w event) f.from f.to) f.bytes → TeamReachesFor tasks Goal (found_of next) k cost
        remains here =
            let s_later = grown f.from f.sender f.sender_there in
            let r_later = grown f.to r f.receiver_there in
            let mail = stays_under_way tasks are w team sound value next event is f.from f.to sender receiver f.bytes here in
            let task = r_later.2.task in
            let reads : message_of r_later.0.task.agents r_later.0.task.publics f.bytes ≡ Some (kinds.State m) =
            (λ j. message_of (task j).agents (task j).publics f.bytes) ∙ f.reads
            in
            let told = (state_heard tasks are w team sound f.from f.sender.task r.task m at (task_in tasks are w team f.to r f.receiver_there) state).1 in
            let same = joint_told_same w next records grown m told in
            inr (inl (record {
              message = on_its_way next r_later.0 m;
              there = message_found tasks (agree_numbered tasks are.agree) next later_team f.from f.to s_later.0 r_later.0 f.bytes m s_later.1 r_later.1 mail reads;
              of = (λ j. known (task j).me (same j)) ∙ ap (λ (a : ℕ). known a (joint_told w m)) me ∙ k_is;
              within = within;
            }))

        by : Contains (under_way (without_taken w event) f.from f.to) f.bytes ⊎ ((event ≡ Take f.to f.from) × (taken w event ≡ f.bytes)) → TeamReachesFor tasks Goal (found_of next) k cost
        by (inl here) = remains here
        by (inr gone) =
            let step : IsStepOf value w (Take f.to f.from) next = subst (λ (x : Event). IsStepOf value w x next) gone.0 is in
            let first : taken w (Take f.to f.from) ≡ f.bytes = ap (taken w) (sym gone.0) ∙ gone.1 in
            let reached = taken_reached f.from f.to f.sender.task r f.bytes m step first at f.receiver_there state f.reads in
            subst (λ (x : Known). TeamReachesFor tasks Goal (found_of next) x cost) k_is
            (reached_at_more (LeadsOn tasks) Goal (found_of next) (known f.to (joint_told w m)) m.g cost within reached)

    -- what is reached stays reached
    pub reached_stays : (k : Known) (cost : ℕ) → TeamReachesFor tasks Goal (found_of w) k cost → TeamReachesFor tasks Goal (found_of next) k cost
    reached_stays k cost (inl has) = inl (entry_stays k cost has)
    reached_stays k cost (inr (inl has)) = message_stays k cost has
    reached_stays k cost (inr (inr hopeless)) = inr (inr hopeless)

    -- ---- what is sent

    module _ (explored : IsTeamExploredFor tasks Goal None (found_of w)) where
      -- what was sent before
      old_sent : (agent k n receiver : ℕ) (r : AgentRecord) (e : Entry AgentState) → agent_at w agent ≡ Some r → slice_get r.search.kept.sent k ≡ Some n
          → slice_get r.search.kept.entries n ≡ Some e → Contains (receivers r.task e.key) receiver
          → TeamReachesFor tasks Goal (found_of next) (known receiver (joint w agent e.key)) e.g
      old_sent agent k n receiver r e there given at here =
          let me = me_is tasks are w team agent r there in
          let reached = explored.sent (sent_to w r e receiver) (sent_found w agent k n receiver r e there given at here) in
          subst (λ (a : ℕ). TeamReachesFor tasks Goal (found_of next) (known receiver (joint w a e.key)) e.g) me
          (reached_stays (sent_to w r e receiver).state e.g reached)

      -- what the agent of the event sends
      new_sent : (k n receiver : ℕ) (e : Entry AgentState) (stepped : HasStepped (value is.agent.task) is.agent is.step)
          → GoesOut is.agent.task is.step.after.search.kept stepped.out k n → slice_get is.step.after.search.kept.sent k ≡ Some n
          → slice_get is.step.after.search.kept.entries n ≡ Some e → Contains (receivers is.agent.task e.key) receiver
          → TeamReachesFor tasks Goal (found_of next) (known receiver (joint next (agent_of event) e.key)) e.g
      new_sent k n receiver e stepped out given at here =
          let a = agent_of event in
          let x = out.sending in
          let m = x.state in
          let last = is.step.after in
          let one : out.entry ≡ e = same_Some out.entry e (sym out.at ∙ at) in
          let for : Contains x.to receiver = subst (λ (xs : List ℕ). Contains xs receiver) (ap (λ (e : Entry AgentState). receivers is.agent.task e.key) (sym one) ∙ sym out.to) here in
          let goes = stepped.goes x out.there receiver for in
          let of = receiver_is is.agent.task e.key receiver here in
          let other = other_there tasks are w team a is.agent is.there receiver of.from_1 of.in_team in
          let u = grown receiver other.1 other.2 in
          let sender = agent_of_team w a is.agent is.there in
          let mail : Contains (under_way next a receiver) (spelling (kinds.State m)) =
          out_is_under_way tasks are w team sound value next event is receiver (kinds.State m) sender other.0 goes.0
          in
          let task : last.task ≡ is.agent.task = stepped.task in
          let at_last : agent_at next is.agent.task.me ≡ Some last = ap (agent_at next) (me_is tasks are w team a is.agent is.there) ∙ is.after in
          let state : IsSoundState next is.agent.task m = record {
            fits = goes.1;
            sent = subst (λ (o : Option AgentRecord). IsSomeAnd o (λ r. IsSentIn is.agent.task r.search.kept m)) (sym at_last) goes.2;
          } in
          let from_at : task_of tasks a ≡ Some is.agent.task = task_at tasks are w team a is.agent is.there in
          let fits = (state_heard tasks are next later_team later_sound a is.agent.task u.0.task m from_at (task_in tasks are next later_team receiver u.0 u.1) state).0 in
          let reads = read_state u.0.task (limits_of tasks are next later_team receiver u.0 u.1) m (spelling (kinds.State m)) refl fits in
          let sent_of_last : IsSoundState next last.task m = subst (λ (t : AgentTask). IsSoundState next t m) (sym task) state in
          let tells =
          tells_of_entry tasks are next later_team later_sound a last m n e is.after sent_of_last.sent
          (ap (slice_get last.search.kept.sent) out.number ∙ given) at
          in
          let cost = tells.1 in
          let u_me = me_is tasks are next later_team receiver u.0 u.1 in
          inr (inl (record {
            message = on_its_way next u.0 m;
            there = message_found tasks (agree_numbered tasks are.agree) next later_team a receiver last u.0 (spelling (kinds.State m)) m is.after u.1 mail reads;
            of = λ j. known (u_me j) (sym tells.0 j);
            within = omega arith;
          }))

      -- all that was sent is reached
      pub sent_reached : (agent k n receiver : ℕ) (r : AgentRecord) (e : Entry AgentState) → agent_at next agent ≡ Some r → slice_get r.search.kept.sent k ≡ Some n
          → slice_get r.search.kept.entries n ≡ Some e → Contains (receivers r.task e.key) receiver
          → TeamReachesFor tasks Goal (found_of next) (known receiver (joint next agent e.key)) e.g
      sent_reached agent k n receiver r e there given at here = by (cases_eq agent (agent_of event))
        where
          -- it was sent before
          before : (a : ℕ) (o : AgentRecord) → agent_at w a ≡ Some o → slice_get o.search.kept.sent k ≡ Some n → agent_at next a ≡ Some r
              → TeamReachesFor tasks Goal (found_of next) (known receiver (joint next a e.key)) e.g
          before a o o_there o_given r_there =
              let inside = All-contains (λ (n : ℕ). n < length o.search.kept.entries) o.search.kept.sent n (agent_sound tasks are w team sound a o o_there).kept.sent (Contains-slice_get o.search.kept.sent k n o_given) in
              let first = some_item o.search.kept.entries n inside in
              let x = later_entry a n o first.0 o_there first.1 in
              let r_is : x.agent_is ≡ r = same_Some x.agent_is r (sym x.there ∙ r_there) in
              let e_is : x.entry ≡ e = same_Some x.entry e (sym x.at ∙ ap (λ (r : AgentRecord). slice_get r.search.kept.entries n) r_is ∙ at) in
              let key : first.0.key ≡ e.key = sym x.key ∙ ap (λ (e : Entry AgentState). e.key) e_is in
              let cost : first.0.g ≡ e.g = sym x.cost ∙ ap (λ (e : Entry AgentState). e.g) e_is in
              let task : r.task ≡ o.task = ap (λ (r : AgentRecord). r.task) (sym r_is) ∙ x.task in
              let for : Contains (receivers o.task first.0.key) receiver = subst (λ (xs : List ℕ). Contains xs receiver) (λ j. receivers (task j) (sym key j)) here in
              let where_is : joint w a first.0.key ≡ joint next a e.key = sym x.joint_is ∙ ap (λ (e : Entry AgentState). joint next a e.key) e_is in
              subst (λ (c : ℕ). TeamReachesFor tasks Goal (found_of next) (known receiver (joint next a e.key)) c) cost
              (subst (λ (s : JointState). TeamReachesFor tasks Goal (found_of next) (known receiver s) first.0.g) where_is
              (old_sent a k n receiver o first.0 o_there o_given first.1 for))

          stepped : HasStepped (value is.agent.task) is.agent is.step
          stepped = event_stepped tasks are w team sound value next small heuristic.small event is

          here_now : agent ≡ agent_of event → is.step.after ≡ r
              → (slice_get is.agent.search.kept.sent k ≡ Some n) ⊎ GoesOut is.agent.task is.step.after.search.kept stepped.out k n
              → TeamReachesFor tasks Goal (found_of next) (known receiver (joint next agent e.key)) e.g
          here_now same r_is (inl old) =
              before agent is.agent (ap (agent_at w) same ∙ is.there) old there
          here_now same r_is (inr out) =
              let task : r.task ≡ is.agent.task = ap (λ (r : AgentRecord). r.task) (sym r_is) ∙ stepped.task in
              subst (λ (a : ℕ). TeamReachesFor tasks Goal (found_of next) (known receiver (joint next a e.key)) e.g) (sym same)
              (new_sent k n receiver e stepped out
              (ap (λ (r : AgentRecord). slice_get r.search.kept.sent k) r_is ∙ given)
              (ap (λ (r : AgentRecord). slice_get r.search.kept.entries n) r_is ∙ at)
              (subst (λ (t : AgentTask). Contains (receivers t e.key) receiver) task here))

          by : (agent ≡ agent_of event) ⊎ (agent ≡ agent_of event → ⊥) → TeamReachesFor tasks Goal (found_of next) (known receiver (joint next agent e.key)) e.g
          by (inl same) =
              let r_is : is.step.after ≡ r = same_Some is.step.after r (sym is.after ∙ ap (agent_at next) (sym same) ∙ there) in
              here_now same r_is (stepped.done.sent k n (ap (λ (r : AgentRecord). slice_get r.search.kept.sent k) r_is ∙ given))
          by (inr other) = before agent r (sym (is.others agent other) ∙ there) given there
