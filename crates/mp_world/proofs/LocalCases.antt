-- The step of an agent by cases: what holds of each thing that an agent may do holds of its step. A law about such a
-- step is a list of these cases, each with what the definitions give there.
use Rattle.mp_world.proofs.Basics.{◌≡◌, ◌≢◌, ℕ, ◌+◌, Bool, true, false, List, [], ◌∷◌, ◌++◌, All, Option, Some, None, refl, sym, subst, Result, Ok, Err, ◌==◌, ◌||◌, not, if◌then◌else◌, flat_map, option_map_or, eqb-false, eqb-true, All-append, All-map, All-nil}
use Rattle.mp_world.proofs.Basics.{none-some}
use Rattle.std.proofs.lemmas.Bool.{or_parts}
use Rattle.mp_messages.specs.declared.message.EndKind.TheVariants as kinds
use Rattle.mp_messages.specs.declared.message.Message.TheVariants.{State as AState}
use Rattle.mp_trail.specs.declared.steps.Timed.{Timed}
use Rattle.mp_trail.specs.declared.steps.Walked.TheVariants.{Root}
use Rattle.mp_machine.specs.declared.event.Ending.{Ending}
use Rattle.mp_machine.specs.declared.event.Local.TheVariants.{Expand, Take, Start}
use Rattle.mp_machine.specs.declared.refusal.BadKind.TheVariants.{NotASpelling, StrangeMarker}
use Rattle.mp_machine.specs.declared.refusal.BadKind.TheVariants.{StrangeReport}
use Rattle.mp_machine.specs.Snapshots.{by_verdict, marked, reported}
use Rattle.mp_world.specs.AgentWords.{EndKind, Findings, Message, Marker, Report, Pick, Trace, Length, Done, State, message_of, Verdict, Proved, NoPlan, Spent, Continue, Notes, after_report, begun, has, is_strange_marker, is_strange_report, is_under_way, is_whole, own}
use Rattle.mp_world.specs.AgentWords.{verdict, with_marker, Walked, Hop, walk, Local, BadKind, UnknownToken, WrongByte, StrangePick, StrangeTrace, StrangeLength, StrangeDone, AgentRecord, given_verdict, local, outgoing_of, with_search, Outgoing, Step, after_sending}
use Rattle.mp_world.specs.AgentWords.{to_each, to_one, to_others, without_messages, findings, judged, judged_or_reported, started, with_notes, ending_of, is_strange_length, is_strange_pick, is_strange_trace, took, took_message, traced, unless_bad, with_state, arrived}
use Rattle.mp_world.specs.AgentWords.{solved, walked, walked_from_goal}
use Rattle.mp_world.specs.SearchWords.{Numbers, Sending, expanded, is_byte_right, is_token_given, sent_entry}

-- ---- messages that go out

-- a message that goes to each of some agents
pub each_such : (P : Message → Type 0) (m : Message) → P m → (agents : List ℕ) → All (λ x. P x.message) (to_each agents m)
each_such P m holds agents =
    All-map (λ (x : Outgoing). P x.message) (λ agent. record { to = agent; message = m }) agents (λ k d h. holds)

pub none_such : (P : Message → Type 0) → All (λ (x : Outgoing). P x.message) []
none_such P = All-nil (λ (x : Outgoing). P x.message)

-- messages that go out first
pub both_such : (P : Message → Type 0) (first more : List Outgoing) → All (λ x. P x.message) first
    → All (λ x. P x.message) more → All (λ x. P x.message) (first ++ more)
both_such P = All-append (λ (x : Outgoing). P x.message)

pub states_such : (P : Message → Type 0) → ((m : State) → P (AState m)) → (sendings : List Sending)
    → All (λ x. P x.message) (flat_map outgoing_of sendings)
states_such P each [] = none_such P
states_such P each (s ∷ ss) =
    both_such P (outgoing_of s) (flat_map outgoing_of ss) (each_such P (AState s.state) (each s.state) s.to)
    (states_such P each ss)

-- ---- walks back and verdicts

-- an agent has walked back from an entry, and has noted its actions on the way
abbrev pub on_trail : AgentRecord → ℕ → ℕ → AgentRecord
on_trail r entry back = record r { trail = r.trail ++ (walk r.search.kept entry back).noted }

-- Steps of an agent that walks back, or that has a verdict to give. It is silent where there is nothing to do.
pub record ActingCases (r : AgentRecord) (Q : Step → Type 0) : Type 0 where
  pub silent : Q (without_messages r)
  pub root : (entry back length : ℕ) → (walk r.search.kept entry back).end ≡ Root length
      → Q (arrived (on_trail r entry back) (Root length))
  pub hop : (entry back agent sent more : ℕ) → (walk r.search.kept entry back).end ≡ Hop agent sent more
      → Q (arrived (on_trail r entry back) (Hop agent sent more))
  pub pick : (agent cost : ℕ) → given_verdict r ≡ Some (Proved agent cost) → agent ≢ r.task.me
      → Q (record { out = to_one agent (Pick r.snapshot.number); after = r })
  pub ended : (v : Verdict) (kind : EndKind) → given_verdict r ≡ Some v
      → Q (record { out = to_others r.task (Done kind); after = record r { ending = ending_of kind } })

module _ (r : AgentRecord) (Q : Step → Type 0) where
  pub walked_holds : ActingCases r Q → (entry back : ℕ) → Q (walked r entry back)
  unfolding walked
  walked_holds cases entry back = by (walk r.search.kept entry back).end refl
    where
      by : (end : Walked) → (walk r.search.kept entry back).end ≡ end → Q (arrived (on_trail r entry back) end)
      by (Root length) is = cases.root entry back length is
      by (Hop agent sent more) is = cases.hop entry back agent sent more is

  pub from_goal_holds : ActingCases r Q → Q (walked_from_goal r)
  from_goal_holds cases = by r.goal
    where
      by : (o : Option ℕ) → Q (option_map_or (λ entry. walked r entry 0) o (without_messages r))
      by None = cases.silent
      by (Some entry) = walked_holds cases entry 0

  verdict_holds : ActingCases r Q → (v : Verdict) → given_verdict r ≡ Some v → Q (by_verdict r v)
  verdict_holds cases (Proved agent cost) given = by (agent == r.task.me) refl
    where
      by : (b : Bool) → (agent == r.task.me) ≡ b
          → Q (if b then walked_from_goal r else (record { out = to_one agent (Pick r.snapshot.number); after = r }))
      by true test = from_goal_holds cases
      by false test = cases.pick agent cost given (eqb-false agent r.task.me test)
  verdict_holds cases NoPlan given = cases.ended NoPlan kinds.NoPlan given
  verdict_holds cases (Spent agent) given = cases.ended (Spent agent) kinds.Spent given
  verdict_holds cases Continue given = cases.silent

  pub judged_holds : ActingCases r Q → Q (judged r)
  unfolding judged
  judged_holds cases = by (given_verdict r) refl
    where
      by : (o : Option Verdict) → given_verdict r ≡ o → Q (option_map_or (by_verdict r) o (without_messages r))
      by None given = cases.silent
      by (Some v) given = verdict_holds cases v given

  -- agent 1 judges, and another agent reports to it once its findings are whole
  pub either_holds : (r.task.me ≡ 1 → Q (judged r))
      → (r.task.me ≢ 1 → is_whole r.snapshot ≡ true → Q (record { out = to_one 1 (Report (own r.snapshot)); after = r }))
      → (r.task.me ≢ 1 → is_whole r.snapshot ≡ false → Q (without_messages r))
      → Q (judged_or_reported r)
  either_holds judges reports waits = by (r.task.me == 1) refl
    where
      report : r.task.me ≢ 1 → (b : Bool) → is_whole r.snapshot ≡ b
          → Q (if b then (record { out = to_one 1 (Report (own r.snapshot)); after = r }) else without_messages r)
      report other true whole = reports other whole
      report other false whole = waits other whole

      by : (b : Bool) → (r.task.me == 1) ≡ b → Q (if b then judged r else reported r)
      by true test = judges (eqb-true r.task.me 1 test)
      by false test = report (eqb-false r.task.me 1 test) (is_whole r.snapshot) refl

-- agent 1 alone gives verdicts
pub judges_first : (r : AgentRecord) (v : Verdict) → given_verdict r ≡ Some v → r.task.me ≡ 1
judges_first r v = by (r.task.me == 1) refl
  where
    by : (b : Bool) → (r.task.me == 1) ≡ b → (if b then verdict r.snapshot else None) ≡ Some v → r.task.me ≡ 1
    by true test given = eqb-true r.task.me 1 test
    by false test given = absurd (none-some v given)

-- ---- messages that are no bad ones

pub bad_or_good : (kind : BadKind) (s : Step) → Err kind ≡ Ok s → ⊥
bad_or_good kind s e = cc

abbrev pub good : Step → Result Step BadKind
good s = Ok s

pub same_step : (s t : Step) → good s ≡ good t → s ≡ t
same_step s t e = cc

pub good_step : (bad : Bool) (kind : BadKind) (s t : Step) → unless_bad bad kind s ≡ Ok t → (bad ≡ false) × (s ≡ t)
good_step true kind s t is = absurd (bad_or_good kind t is)
good_step false kind s t is = (refl, same_step s t is)

pub not_false : (b : Bool) → not b ≡ false → b ≡ true
not_false true e = refl
not_false false e = sym e

-- a marker of the snapshot that is under way at the agent
pub record GoesOn (r : AgentRecord) (from number : ℕ) : Type 0 where
  pub same : r.snapshot.number ≡ number
  pub on : is_under_way r.snapshot ≡ true
  pub fresh : has r.snapshot.marked from ≡ false

-- a marker by which the next snapshot begins at the agent
pub record Begins (r : AgentRecord) (number : ℕ) : Type 0 where
  pub next : number ≡ r.snapshot.number + 1
  pub free : is_under_way r.snapshot ≡ false
  pub other : r.snapshot.me ≢ 1

-- Steps at a message that is no bad one.
pub record MessageCases
    (value : Numbers → Numbers → Option ℕ)
    (r : AgentRecord)
    (from : ℕ)
    (Q : Message → Step → Type 0)
    : Type 0 where
  pub state : (m : State) → is_token_given r.task r.search.kept m ≡ true
      → is_byte_right r.task r.search.kept m ≡ true
      → Q (AState m) (without_messages (with_state value r from m))
  pub on : (number : ℕ) → GoesOn r from number
      → Q (Marker number) (judged_or_reported (record r { snapshot = with_marker r.snapshot from }))
  pub begins : (number : ℕ) → Begins r number
      → Q (Marker number)
      (after_sending (to_others r.task (Marker number))
      (judged_or_reported (with_notes (with_marker (begun r.snapshot number (findings r)) from) r)))
  pub report : (found : Findings) → is_strange_report r.snapshot from found ≡ false
      → Q (Report found) (judged (record r { snapshot = after_report r.snapshot from found }))
  pub pick : (number : ℕ) → is_strange_pick r from number ≡ false
      → Q (Pick number) (walked_from_goal (record r { picked = true }))
  pub trace : (sent back entry : ℕ) → sent_entry sent r.search.kept ≡ Some entry
      → is_strange_trace r entry back ≡ false → Q (Trace sent back) (walked r entry back)
  pub length : (plan : ℕ) → is_strange_length r plan ≡ false → Q (Length plan) (without_messages (solved r plan))
  pub done : (kind : EndKind) → from ≡ 1 → Q (Done kind) (without_messages (record r { ending = ending_of kind }))

-- Steps at an event: a message is read of the bytes and taken.
pub record EventCases
    (value : Numbers → Numbers → Option ℕ)
    (r : AgentRecord)
    (event : Local)
    (bytes : List ℕ)
    (Q : Step → Type 0)
    : Type 0 where
  pub expands : event ≡ Expand → Q (with_search r (expanded r.task value r.search))
  pub takes : (from : ℕ) (m : Message) (s : Step) → event ≡ Take from
      → message_of r.task.agents r.task.publics bytes ≡ Some m → took_message value r from m ≡ Ok s → Q s
  pub starts : event ≡ Start → Q (started r)

module _ (value : Numbers → Numbers → Option ℕ) (r : AgentRecord) where
  marker_holds : (from : ℕ) (Q : Message → Step → Type 0) → MessageCases value r from Q → (number : ℕ)
      → is_strange_marker r.snapshot from number ≡ false → Q (Marker number) (marked r from number)
  marker_holds from Q cases number = by (is_under_way r.snapshot) refl
    where
      by : (b : Bool) → is_under_way r.snapshot ≡ b
          → (if b
          then not (number == r.snapshot.number) || has r.snapshot.marked from
          else (r.snapshot.me == 1) || not (number == r.snapshot.number + 1)) ≡ false
          → Q (Marker number)
          (if b
          then
          judged_or_reported (record r {
            snapshot = with_marker (if b then r.snapshot else begun r.snapshot number (findings r)) from;
          })
          else
          after_sending (to_others r.task (Marker number))
          (judged_or_reported
          (with_notes (with_marker (if b then r.snapshot else begun r.snapshot number (findings r)) from) r)))
      by true on good =
          let parts = or_parts (not (number == r.snapshot.number)) (has r.snapshot.marked from) good in
          cases.on number (record {
            same = sym (eqb-true number r.snapshot.number (not_false (number == r.snapshot.number) parts.0));
            on = on;
            fresh = parts.1;
          })
      by false off good =
          let parts = or_parts (r.snapshot.me == 1) (not (number == r.snapshot.number + 1)) good in
          cases.begins number (record {
            next = eqb-true number (r.snapshot.number + 1) (not_false (number == r.snapshot.number + 1) parts.1);
            free = off;
            other = eqb-false r.snapshot.me 1 parts.0;
          })

  module _ (from : ℕ) (Q : Message → Step → Type 0) (cases : MessageCases value r from Q) where
    -- where it is no bad one
    if_good : (m : Message) (bad : Bool) (kind : BadKind) (made s : Step) → (bad ≡ false → Q m made)
        → unless_bad bad kind made ≡ Ok s → Q m s
    if_good m bad kind made s holds is =
        let good = good_step bad kind made s is in subst (Q m) good.1 (holds good.0)

    pub message_holds : (m : Message) (s : Step) → took_message value r from m ≡ Ok s → Q m s
    message_holds (AState m) s is = by (is_token_given r.task r.search.kept m) refl is
      where
        made : Step
        made = without_messages (with_state value r from m)

        by : (given : Bool) → is_token_given r.task r.search.kept m ≡ given
            → (if not given
            then Err UnknownToken
            else unless_bad (not (is_byte_right r.task r.search.kept m)) WrongByte made) ≡ Ok s → Q (AState m) s
        by true given is =
            if_good (AState m) (not (is_byte_right r.task r.search.kept m)) WrongByte made s
            (λ right. cases.state m given (not_false (is_byte_right r.task r.search.kept m) right)) is
        by false given is = absurd (bad_or_good UnknownToken s is)
    message_holds (Marker number) s is =
        if_good (Marker number) (is_strange_marker r.snapshot from number) StrangeMarker (marked r from number) s
        (marker_holds from Q cases number) is
    message_holds (Report found) s is =
        if_good (Report found) (is_strange_report r.snapshot from found) StrangeReport
        (judged (record r { snapshot = after_report r.snapshot from found })) s (cases.report found) is
    message_holds (Pick number) s is =
        if_good (Pick number) (is_strange_pick r from number) StrangePick
        (walked_from_goal (record r { picked = true })) s (cases.pick number) is
    message_holds (Trace sent back) s is = by (sent_entry sent r.search.kept) refl is
      where
        by : (o : Option ℕ) → sent_entry sent r.search.kept ≡ o
            → option_map_or (traced r back) o (Err StrangeTrace) ≡ Ok s → Q (Trace sent back) s
        by None there is = absurd (bad_or_good StrangeTrace s is)
        by (Some entry) there is =
            if_good (Trace sent back) (is_strange_trace r entry back) StrangeTrace (walked r entry back) s
            (cases.trace sent back entry there) is
    message_holds (Length plan) s is =
        if_good (Length plan) (is_strange_length r plan) StrangeLength (without_messages (solved r plan)) s
        (cases.length plan) is
    message_holds (Done kind) s is =
        if_good (Done kind) (not (from == 1)) StrangeDone (without_messages (record r { ending = ending_of kind }))
        s (λ first. cases.done kind (eqb-true from 1 (not_false (from == 1) first))) is

  pub event_holds : (event : Local) (bytes : List ℕ) (Q : Step → Type 0) → EventCases value r event bytes Q
      → (s : Step) → local value r event bytes ≡ Ok s → Q s
  unfolding took
  event_holds Expand bytes Q cases s is =
      subst Q (same_step (with_search r (expanded r.task value r.search)) s is) (cases.expands refl)
  event_holds (Take from) bytes Q cases s is = by (message_of r.task.agents r.task.publics bytes) refl is
    where
      by : (o : Option Message) → message_of r.task.agents r.task.publics bytes ≡ o
          → option_map_or (took_message value r from) o (Err NotASpelling) ≡ Ok s → Q s
      by None reads is = absurd (bad_or_good NotASpelling s is)
      by (Some m) reads is = cases.takes from m s refl reads is
  event_holds Start bytes Q cases s is = subst Q (same_step (started r) s is) (cases.starts refl)

-- ---- what each change in an agent keeps

-- Where a step after a change of an agent's record is such a step of the agent, too, it is enough to know the ends.
pub record StepCases (P : AgentRecord → Step → Type 0) : Type 0 where
  pub acts : (r : AgentRecord) → ActingCases r (P r)
  pub report : (r : AgentRecord) → P r (record { out = to_one 1 (Report (own r.snapshot)); after = r })
  -- other notes
  pub notes : (r : AgentRecord) (new : Notes) (s : Step) → P (record r { snapshot = new }) s → P r s
  -- a snapshot begins
  pub begins : (r : AgentRecord) (new : Notes) (number : ℕ) (s : Step) → P (with_notes new r) s
      → P r (after_sending (to_others r.task (Marker number)) s)
  pub picked : (r : AgentRecord) (s : Step) → P (record r { picked = true }) s → P r s
  -- a length or an end is told
  pub ended : (r : AgentRecord) (ending : Ending) (share : List Timed)
      → P r (without_messages (record r { ending = ending; share = share }))

module _ (P : AgentRecord → Step → Type 0) (cases : StepCases P) where
  pub each_judged : (r : AgentRecord) → P r (judged r)
  each_judged r = judged_holds r (P r) (cases.acts r)

  pub each_either : (r : AgentRecord) → P r (judged_or_reported r)
  each_either r =
      either_holds r (P r) (λ first. each_judged r) (λ other whole. cases.report r) (λ other waits. (cases.acts r).silent)

  pub each_started : (r : AgentRecord) → P r (started r)
  each_started r =
      let new = begun r.snapshot (r.snapshot.number + 1) (findings r) in
      cases.begins r new (r.snapshot.number + 1) (judged (with_notes new r)) (each_judged (with_notes new r))

  module _ (value : Numbers → Numbers → Option ℕ) (r : AgentRecord) where
    -- states are a case of their own
    pub each_message : (from : ℕ) (m : Message) (s : Step)
        → ((x : State) → m ≡ AState x → P r (without_messages (with_state value r from x)))
        → took_message value r from m ≡ Ok s → P r s
    each_message from m s state is =
        message_holds value r from
        (λ m s. ((x : State) → m ≡ AState x → P r (without_messages (with_state value r from x))) → P r s) (record {
          state = λ x given right holds. holds x refl;
          on = λ number on holds.
              let new = with_marker r.snapshot from in
              cases.notes r new (judged_or_reported (record r { snapshot = new }))
              (each_either (record r { snapshot = new }));
          begins = λ number begins holds.
              let new = with_marker (begun r.snapshot number (findings r)) from in
              cases.begins r new number (judged_or_reported (with_notes new r)) (each_either (with_notes new r));
          report = λ found good holds.
              let new = after_report r.snapshot from found in
              cases.notes r new (judged (record r { snapshot = new })) (each_judged (record r { snapshot = new }));
          pick = λ number good holds.
              let new : AgentRecord = record r { picked = true } in
              cases.picked r (walked_from_goal new) (from_goal_holds new (P new) (cases.acts new));
          trace = λ sent back entry there good holds. walked_holds r (P r) (cases.acts r) entry back;
          length = λ plan good holds. cases.ended r (solved r plan).ending (solved r plan).share;
          done = λ kind first holds. cases.ended r (ending_of kind) r.share;
        }) m s is state

    pub each_local : (event : Local) (bytes : List ℕ) (s : Step)
        → P r (with_search r (expanded r.task value r.search))
        → ((from : ℕ) (x : State) → P r (without_messages (with_state value r from x)))
        → local value r event bytes ≡ Ok s → P r s
    each_local event bytes s expansion state is =
        event_holds value r event bytes (P r) (record {
          expands = λ at. expansion;
          takes = λ from m u at reads took. each_message from m u (λ x same. state from x) took;
          starts = λ at. each_started r;
        }) s is
