-- What the agents have found, from what their records and the mail have, and back.
use Rattle.mp_world.proofs.Basics.{◌≡◌, ℕ, zero, suc, List, Option, Some, None, refl, sym, ap, subst, ◌∙◌, Contains, option_and_then, option_map, slice_get, none-some, same_Some}
use Rattle.mp_task.proofs.Agreeing.{Contains-slice_get}
use Rattle.mp_messages.specs.declared.message.Message.TheVariants as kinds
use Rattle.mp_messages.specs.Parts.{state_in}
use Rattle.mp_messages.proofs.Parts.{state_in_some}
use Rattle.mp_store.specs.Sent.{sent_entries}
use Rattle.mp_reach.specs.Explored.{IsAt}
use Rattle.mp_reach.specs.Found.{Entry as Seen, Message as Sent}
use Rattle.mp_reach.specs.LeadsOn.{Known}
use Rattle.mp_world.specs.AgentWords.{AgentTask, State, message_of, AgentRecord}
use Rattle.mp_world.specs.SearchWords.{Entry, AgentState, receivers}
use Rattle.mp_world.specs.World.{AreNumbered, IsTeamWorld, World, agent_at, under_way}
use Rattle.mp_world.proofs.Agents.{member_of}
use Rattle.mp_team_states.specs.TeamFound.{found_of, on_its_way, seen_entry, sent_by, sent_of, sent_to, state_read, states_between, states_from}
use Rattle.mp_team_states.proofs.Members.{at_place, from_filter_map, to_filter_map}
use Rattle.mp_list.proofs.Members.{from_flat_map, from_map, to_flat_map, to_map}

-- ---- entries

pub entry_found : (w : World) (agent n : ℕ) (r : AgentRecord) (e : Entry AgentState) → agent_at w agent ≡ Some r → slice_get r.search.kept.entries n ≡ Some e
    → IsAt (found_of w) (agent, n) (seen_entry w agent e)
entry_found w agent n r e there at =
    ap (λ (o : Option AgentRecord). option_map (seen_entry w agent) (option_and_then (λ r. slice_get r.search.kept.entries n) o)) there
    ∙ ap (option_map (seen_entry w agent)) at

pub record IsFound (w : World) (agent n : ℕ) (seen : Seen Known) : Type 0 where
  pub agent_is : AgentRecord
  pub there : agent_at w agent ≡ Some agent_is
  pub entry : Entry AgentState
  pub at : slice_get agent_is.search.kept.entries n ≡ Some entry
  pub is : seen ≡ seen_entry w agent entry

pub found_entry : (w : World) (i : ℕ × ℕ) (seen : Seen Known) → IsAt (found_of w) i seen → IsFound w i.0 i.1 seen
found_entry w (agent, n) seen is = by (agent_at w agent) refl is
  where
    at_agent : (r : AgentRecord) → agent_at w agent ≡ Some r → (o : Option (Entry AgentState)) → slice_get r.search.kept.entries n ≡ o → option_map (seen_entry w agent) o ≡ Some seen → IsFound w agent n seen
    at_agent r there None at is = absurd (none-some seen is)
    at_agent r there (Some e) at is = record { agent_is = r; there = there; entry = e; at = at; is = sym (same_Some (seen_entry w agent e) seen is) }

    by : (o : Option AgentRecord) → agent_at w agent ≡ o → option_map (seen_entry w agent) (option_and_then (λ r. slice_get r.search.kept.entries n) o) ≡ Some seen → IsFound w agent n seen
    by None there is = absurd (none-some seen is)
    by (Some r) there is = at_agent r there (slice_get r.search.kept.entries n) refl is

-- ---- what was sent

agent_member : (w : World) (agent : ℕ) (r : AgentRecord) → agent_at w agent ≡ Some r → Contains w.agents r
agent_member w zero r there = absurd (none-some r there)
agent_member w (suc k) r there = Contains-slice_get w.agents k r there

pub sent_found : (w : World) (agent k n receiver : ℕ) (r : AgentRecord) (e : Entry AgentState) → agent_at w agent ≡ Some r
    → slice_get r.search.kept.sent k ≡ Some n → slice_get r.search.kept.entries n ≡ Some e → Contains (receivers r.task e.key) receiver
    → Contains (found_of w).sent (sent_to w r e receiver)
sent_found w agent k n receiver r e there given at here =
    let entry : Contains (sent_entries r.search.kept) e = to_filter_map (slice_get r.search.kept.entries) r.search.kept.sent n e (Contains-slice_get r.search.kept.sent k n given) at in
    let one : Contains (sent_of w r e) (sent_to w r e receiver) = to_map (sent_to w r e) (receivers r.task e.key) receiver here in
    let all : Contains (sent_by w r) (sent_to w r e receiver) = to_flat_map (sent_of w r) (sent_entries r.search.kept) e (sent_to w r e receiver) entry one in
    to_flat_map (sent_by w) w.agents r (sent_to w r e receiver) (agent_member w agent r there) all

pub record IsFoundSent (w : World) (x : Sent Known) : Type 0 where
  pub agent : ℕ
  pub agent_is : AgentRecord
  pub there : agent_at w agent ≡ Some agent_is
  pub sent : ℕ
  pub number : ℕ
  pub entry : Entry AgentState
  pub given : slice_get agent_is.search.kept.sent sent ≡ Some number
  pub at : slice_get agent_is.search.kept.entries number ≡ Some entry
  pub receiver : ℕ
  pub here : Contains (receivers agent_is.task entry.key) receiver
  pub is : sent_to w agent_is entry receiver ≡ x

pub found_sent : (w : World) (x : Sent Known) → Contains (found_of w).sent x → IsFoundSent w x
found_sent w x found =
    let r = from_flat_map (sent_by w) w.agents x found in
    let e = from_flat_map (sent_of w r.0) (sent_entries r.0.search.kept) x r.2 in
    let b = from_map (sent_to w r.0 e.0) (receivers r.0.task e.0.key) x e.2 in
    let n = from_filter_map (slice_get r.0.search.kept.entries) r.0.search.kept.sent e.0 e.1 in
    let k = at_place r.0.search.kept.sent n.0 n.1 in
    let agent = at_place w.agents r.0 r.1 in
    record {
      agent = suc agent.0;
      agent_is = r.0;
      there = agent.1;
      sent = k.0;
      number = n.0;
      entry = e.0;
      given = k.1;
      at = n.2;
      receiver = b.0;
      here = b.1;
      is = b.2;
    }

-- ---- what is under way

pub reads_state : (t : AgentTask) (bytes : List ℕ) (m : State) → message_of t.agents t.publics bytes ≡ Some (kinds.State m) → state_read t bytes ≡ Some m
reads_state t bytes m reads = ap (option_and_then state_in) reads

pub state_was_read : (t : AgentTask) (bytes : List ℕ) (m : State) → state_read t bytes ≡ Some m → message_of t.agents t.publics bytes ≡ Some (kinds.State m)
state_was_read t bytes m is = state_in_some (message_of t.agents t.publics bytes) m is

module _ (tasks : List AgentTask) (numbered : AreNumbered tasks) (w : World) (team : IsTeamWorld tasks w) where
  me_of : (agent : ℕ) (r : AgentRecord) → agent_at w agent ≡ Some r → r.task.me ≡ agent
  me_of agent r there = (member_of tasks numbered w team agent r there).me

  pub message_found : (from to : ℕ) (s r : AgentRecord) (bytes : List ℕ) (m : State) → agent_at w from ≡ Some s → agent_at w to ≡ Some r
      → Contains (under_way w from to) bytes → message_of r.task.agents r.task.publics bytes ≡ Some (kinds.State m)
      → Contains (found_of w).under_way (on_its_way w r m)
  message_found from to s r bytes m s_there r_there here reads =
      let mail : Contains (under_way w s.task.me r.task.me) bytes =
      subst (λ (xs : List (List ℕ)). Contains xs bytes) (λ j. under_way w (sym (me_of from s s_there) j) (sym (me_of to r r_there) j)) here
      in
      let one : Contains (states_between w s r) (on_its_way w r m) =
      to_map (on_its_way w r) _ m (to_filter_map (state_read r.task) (under_way w s.task.me r.task.me) bytes m mail (reads_state r.task bytes m reads))
      in
      let all : Contains (states_from w s) (on_its_way w r m) = to_flat_map (states_between w s) w.agents r (on_its_way w r m) (agent_member w to r r_there) one in
      to_flat_map (states_from w) w.agents s (on_its_way w r m) (agent_member w from s s_there) all

  pub record IsFoundMessage (x : Sent Known) : Type 0 where
    pub from : ℕ
    pub to : ℕ
    pub sender : AgentRecord
    pub receiver : AgentRecord
    pub sender_there : agent_at w from ≡ Some sender
    pub receiver_there : agent_at w to ≡ Some receiver
    pub bytes : List ℕ
    pub state : State
    pub here : Contains (under_way w from to) bytes
    pub reads : message_of receiver.task.agents receiver.task.publics bytes ≡ Some (kinds.State state)
    pub is : on_its_way w receiver state ≡ x

  pub found_message : (x : Sent Known) → Contains (found_of w).under_way x → IsFoundMessage x
  found_message x found =
      let s = from_flat_map (states_from w) w.agents x found in
      let r = from_flat_map (states_between w s.0) w.agents x s.2 in
      let m = from_map (on_its_way w r.0) _ x r.2 in
      let bytes = from_filter_map (state_read r.0.task) (under_way w s.0.task.me r.0.task.me) m.0 m.1 in
      let s_at = at_place w.agents s.0 s.1 in
      let r_at = at_place w.agents r.0 r.1 in
      record {
        from = suc s_at.0;
        to = suc r_at.0;
        sender = s.0;
        receiver = r.0;
        sender_there = s_at.1;
        receiver_there = r_at.1;
        bytes = bytes.0;
        state = m.0;
        here =
            subst (λ (xs : List (List ℕ)). Contains xs bytes.0) (λ j. under_way w (me_of (suc s_at.0) s.0 s_at.1 j) (me_of (suc r_at.0) r.0 r_at.1 j)) bytes.1;
        reads = state_was_read r.0.task bytes.0 m.0 bytes.2;
        is = m.2;
      }
