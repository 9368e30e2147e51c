-- The states of an expansion go to other agents of the team.
use Rattle.mp_world.proofs.Basics.{ℕ, ◌+◌, Bool, true, false, cond, List, [], ◌∷◌, ◌++◌, Option, Some, None, All, Contains, slice_get, flat_map, option_map_or, All-append, All-cons, All-head, All-map, All-nil, All-tail, All-weaker}
use Rattle.std.proofs.lemmas.List.Elements.{All-contains_itself}
use Rattle.mp_messages.specs.declared.message.Message.TheVariants as kinds
use Rattle.mp_store.specs.Sent.{mark_sent}
use Rattle.mp_search.specs.Sending.{message_of_entry}
use Rattle.mp_world.specs.AgentWords.{Act, AgentTask, Message, State, outgoing_of, Outgoing, others, to_each, to_one, to_others}
use Rattle.mp_world.specs.SearchWords.{Numbers, Entry, best, least_open, Record, Sending, AgentState, applies, same_state, successor, receivers, Parent, expanded, expanded_entry, with_action, with_actions, with_successor, SearchRecord, is_due, sending_of, sent_best}
use Rattle.mp_world.specs.SearchWords.{sent_entry_of, sent_if_due}
use Rattle.mp_team_states.proofs.Joint.{IsReceiver, receiver_is}
use Rattle.mp_team_verdicts.proofs.Others.{another_is}

-- ---- messages

-- what goes out goes to another agent of the team
abbrev pub GoesOut : AgentTask → Outgoing → Type 0
GoesOut t x = IsReceiver t x.to

abbrev pub GoOut : AgentTask → List Outgoing → Type 0
GoOut t out = All (GoesOut t) out

pub none_goes : (t : AgentTask) → GoOut t []
none_goes t = All-nil (GoesOut t)

pub both_go : (t : AgentTask) (a b : List Outgoing) → GoOut t a → GoOut t b → GoOut t (a ++ b)
both_go t a b first later = All-append (GoesOut t) a b first later

pub one_goes : (t : AgentTask) (agent : ℕ) (m : Message) → IsReceiver t agent → GoOut t (to_one agent m)
one_goes t agent m is = All-cons (GoesOut t) (record { to = agent; message = m }) [] is (none_goes t)

each_goes : (t : AgentTask) (agents : List ℕ) (m : Message) → All (IsReceiver t) agents → GoOut t (to_each agents m)
each_goes t agents m all = All-map (GoesOut t) (λ agent. record { to = agent; message = m }) agents all

pub all_others_go : (t : AgentTask) (m : Message) → GoOut t (to_others t m)
all_others_go t m =
    let agents = others t.me t.agents in
    each_goes t agents m
    (All-weaker (Contains agents) (IsReceiver t) (another_is t) agents (All-contains_itself agents))

-- ---- states

-- a state goes to other agents of the team
abbrev IsSent : AgentTask → Sending → Type 0
IsSent t x = All (IsReceiver t) x.to

abbrev AreSent : AgentTask → List Sending → Type 0
AreSent t out = All (IsSent t) out

module _ (t : AgentTask) where
  none_sent : AreSent t []
  none_sent = All-nil (IsSent t)

  state_sent : (s : AgentState) (m : State) → AreSent t (record { state = m; to = receivers t s } ∷ [])
  state_sent s m =
      All-cons (IsSent t) (record { state = m; to = receivers t s }) []
      (All-weaker (Contains (receivers t s)) (IsReceiver t) (receiver_is t s) (receivers t s)
      (All-contains_itself (receivers t s))) none_sent

  sending_sent : (s : AgentState) (e : Entry AgentState) (d : Option ℕ × Record AgentState)
      → AreSent t (sending_of t s e d).0
  sending_sent s e (None, r) = none_sent
  sending_sent s e (Some number, r) = state_sent s (message_of_entry t r number e)

  entry_sent : (s : AgentState) (o : Option ℕ) (r : Record AgentState) → AreSent t (sent_entry_of t s o r).0
  unfolding sent_entry_of
  entry_sent s None r = none_sent
  entry_sent s (Some n) r = by (slice_get r.entries n)
    where
      by : (o : Option (Entry AgentState))
          → AreSent t (option_map_or (λ e. sending_of t s e (mark_sent same_state n r)) o ([], r)).0
      by None = none_sent
      by (Some e) = sending_sent s e (mark_sent same_state n r)

  due_sent : (act : Act) (s reached : AgentState) (r : Record AgentState) → AreSent t (sent_if_due t act s reached r).0
  unfolding sent_if_due
  due_sent act s reached r = by (is_due t act s reached)
    where
      by : (b : Bool) → AreSent t (cond b (sent_best t reached r) ([], r)).0
      by true = entry_sent reached (best same_state reached r) r
      by false = none_sent

  module _ (value : Numbers → Numbers → Option ℕ) where
    successor_sent : (parent : Parent) (number : ℕ) (act : Act) (reached : AgentState) (r : Record AgentState)
        → AreSent t (with_successor t value parent number act reached r).0
    unfolding with_successor
    successor_sent parent number act reached r = due_sent act parent.state reached _

    action_sent : (parent : Parent) (number : ℕ) (act : Act) (r : Record AgentState)
        → AreSent t (with_action t value parent number act r).0
    unfolding with_action
    action_sent parent number act r = by (applies act parent.state)
      where
        by : (b : Bool) → AreSent t
            (cond b (with_successor t value parent number act (successor act parent.state) r) ([], r)).0
        by true = successor_sent parent number act (successor act parent.state) r
        by false = none_sent

    actions_sent : (parent : Parent) (number : ℕ) (acts : List Act) (r : Record AgentState)
        → AreSent t (with_actions t value parent number acts r).0
    unfolding with_actions
    actions_sent parent number [] r = none_sent
    actions_sent parent number (act ∷ acts) r =
        let d = with_action t value parent number act r in
        All-append (IsSent t) d.0 (with_actions t value parent (number + 1) acts d.1).0
        (action_sent parent number act r)
        (actions_sent parent (number + 1) acts d.1)

    expanded_sent : (r : SearchRecord) → AreSent t (expanded t value r).0
    unfolding expanded expanded_entry
    expanded_sent r = by (least_open r.kept)
      where
        at : (n : ℕ) (o : Option (Entry AgentState))
            → AreSent t (option_map_or (λ e. expanded_entry t value n e r) o ([], r)).0
        at n None = none_sent
        at n (Some e) = actions_sent (record { number = n; state = e.key; g = e.g }) 0 t.acts _

        by : (o : Option ℕ) → AreSent t
            (option_map_or (λ n. option_map_or (λ e. expanded_entry t value n e r) (slice_get r.kept.entries n)
            ([], r)) o ([], r)).0
        by None = none_sent
        by (Some n) = at n (slice_get r.kept.entries n)

  states_go : (out : List Sending) → AreSent t out → GoOut t (flat_map outgoing_of out)
  states_go [] sent = none_goes t
  states_go (x ∷ xs) sent =
      both_go t (outgoing_of x) (flat_map outgoing_of xs)
      (each_goes t x.to (kinds.State x.state) (All-head (IsSent t) x xs sent))
      (states_go xs (All-tail (IsSent t) x xs sent))

  pub expansion_goes : (value : Numbers → Numbers → Option ℕ) (r : SearchRecord)
      → GoOut t (flat_map outgoing_of (expanded t value r).0)
  expansion_goes value r = states_go (expanded t value r).0 (expanded_sent value r)
