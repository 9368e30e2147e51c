-- The trace of a log is read as its schedule.
use Rattle.std.proofs.Common.{◌≡◌, refl, sym, ap, ◌∙◌, ℕ, ◌+◌, ◌<◌, ◌≤◌, ◌==◌, Bool, true, false, List, [], ◌∷◌, ◌++◌, length, map, take, All, Option, Some, None, append_assoc, append-nil, suc, zero, cond, arith, inl, inr}
use Rattle.std.specs.Prelude.{codes, Ok, ◌≢◌}
use Rattle.std.specs.List.{AllByRecursion, cons_option, filter, filter_map}
use Rattle.std.proofs.Math.Nat.{add-zero}
use Rattle.std.proofs.lemmas.Bool.{ne_eqb, or_cases}
use Rattle.std.proofs.lemmas.List.Elements.{recursion_from_All}
use Rattle.std.proofs.lemmas.Slice.Eq.{bytes_eq-Decides}
use Rattle.std.specs.Str.{bytes_eq}
use Rattle.hex.specs.Hex.{encode_lower}
use Rattle.mp_messages.specs.History.{agent_of, event_of, part, schedule}
use Rattle.mp_messages.specs.declared.history.Event.{Event}
use Rattle.mp_messages.specs.declared.history.Event.TheVariants as events
use Rattle.mp_messages.specs.declared.history.Kind.TheVariants as acts
use Rattle.mp_messages.specs.declared.history.Entry.{Entry}
use Rattle.mp_messages.specs.declared.history.Entry.TheVariants.{Act, Put, Took}
use Rattle.mp_text.specs.declared.schedule.EventLine.{EventLine}
use Rattle.mp_text.specs.Again.{IsAgent, IsOfTeam, numbered, numbered_events}
use Rattle.mp_text.specs.Lines.{Text, lines_of}
use Rattle.mp_text.specs.Reading.{byte_at, event_at, text_behind}
use Rattle.mp_text.specs.Schedule.{event_in, is_end, is_message, schedule_in, schedule_of, with_event}
use Rattle.mp_text.specs.Trace.{event_line, lines_if_event, lines_of_event, message_head, message_line, put_line, puts_before_event, trace_lines, trace_text}
use Rattle.mp_text.proofs.EventLemmas.{event_again, event_is}
use Rattle.mp_text.proofs.MessageLemmas.{line_again, message_is}
use Rattle.mp_text.proofs.PairLemmas.{IsPair}
use Rattle.mp_text.proofs.PlainLemmas.{ArePlain, IsPlain, hexadecimal_again, lines_again, lines_first, plain_event, plain_message}
use Rattle.mp_text.proofs.TeamLemmas.{IsOf}

-- ---- single lines

no_end_event : (event : Event) → is_end (event_line event) ≡ false
unfolding event_line
no_end_event (events.Expand agent) = refl
no_end_event (events.Take by from) = refl
no_end_event events.Start = refl

no_end_message : (from to : ℕ) (bytes : List ℕ) → is_end (message_line from to bytes) ≡ false
unfolding message_head
no_end_message from to bytes = refl

no_event : (agents from to : ℕ) (bytes : List ℕ) → event_at agents (message_line from to bytes) ≡ None
unfolding event_at message_head text_behind byte_at
no_event agents from to bytes = refl

pair_of : (agents one other : ℕ) → IsAgent agents one → IsAgent agents other → (one ≢ other) → IsPair agents one other
pair_of agents one other p q differ =
    record { some = p.0; few = p.1; other_some = q.0; other_few = q.1; differ = ne_eqb one other differ }

-- what is known of a message that is put
pub record IsGood (agents from to : ℕ) (bytes : List ℕ) : Type 0 where
  pub pair : IsPair agents from to
  pub some : bytes ≢ []
  pub fit : All (λ byte. byte < 256) bytes

good : (agents from to : ℕ) (bytes : List ℕ) → IsOfTeam agents (Put from to bytes) → IsGood agents from to bytes
good agents from to bytes h = record { pair = pair_of agents from to h.0 h.1 h.2; some = h.3; fit = h.4 }

message_again : (agents from to : ℕ) (bytes : List ℕ) → agents ≤ 16 → IsGood agents from to bytes → is_message agents (message_line from to bytes) ≡ true
message_again agents from to bytes team g =
    sym (message_is agents (message_line from to bytes) team)
    ∙ line_again agents (message_line from to bytes) team (record {
      from = from;
      to = to;
      digits = encode_lower bytes;
      pair = g.pair;
      is = refl;
      bytes = hexadecimal_again bytes g.some g.fit;
    })

-- ---- a line at the front of others

event_front : (agents number : ℕ) (event : Event) (lines : List Text) → agents ≤ 16 → IsOf agents event
    → schedule_of agents number (event_line event ∷ lines) ≡ with_event event number (schedule_of agents (number + 1) lines)
event_front agents number event lines team h =
    let is : event_in agents (event_line event) ≡ Some event = sym (event_is agents (event_line event) team) ∙ event_again agents event team h in
    rw (no_end_event event, is) refl

message_front : (agents number from to : ℕ) (bytes : List ℕ) (lines : List Text) → agents ≤ 16 → IsGood agents from to bytes
    → schedule_of agents number (message_line from to bytes ∷ lines) ≡ schedule_of agents (number + 1) lines
message_front agents number from to bytes lines team g =
    let none : event_in agents (message_line from to bytes) ≡ None = sym (event_is agents (message_line from to bytes) team) ∙ no_event agents from to bytes in
    rw (no_end_message from to bytes, none, message_again agents from to bytes team g) refl

-- the lines of messages are passed over
puts_front : (agents number : ℕ) (puts : List Entry) (lines : List Text) → agents ≤ 16 → AllByRecursion (IsOfTeam agents) puts
    → schedule_of agents number (filter_map put_line puts ++ lines) ≡ schedule_of agents (number + length (filter_map put_line puts)) lines
puts_front agents number [] lines team h = rw add-zero refl
puts_front agents number (Act agent kind ∷ puts) lines team h = puts_front agents number puts lines team h.1
puts_front agents number (Took by from bytes ∷ puts) lines team h = puts_front agents number puts lines team h.1
puts_front agents number (Put from to bytes ∷ puts) lines team h =
    let further : number + 1 + length (filter_map put_line puts) ≡ number + suc (length (filter_map put_line puts)) = omega arith in
    message_front agents number from to bytes (filter_map put_line puts ++ lines) team (good agents from to bytes h.0)
    ∙ puts_front agents (number + 1) puts lines team h.1
    ∙ ap (λ n. schedule_of agents n lines) further

-- ---- what holds of all entries holds of those that are taken

by_test : {X : Type 0} (P : X → Type 0) (passes : Bool) (x : X) (xs : List X) → P x → AllByRecursion P xs → AllByRecursion P (cond passes (x ∷ xs) xs)
by_test P true x xs h k = (h, k)
by_test P false x xs h k = k

all_filter : {X : Type 0} (P : X → Type 0) (test : X → Bool) (xs : List X) → AllByRecursion P xs → AllByRecursion P (filter test xs)
all_filter P test [] h = tt
all_filter P test (x ∷ xs) h = by_test P (test x) x (filter test xs) h.0 (all_filter P test xs h.1)

all_take : {X : Type 0} (P : X → Type 0) (n : ℕ) (xs : List X) → AllByRecursion P xs → AllByRecursion P (take n xs)
all_take P zero xs h = tt
all_take P (suc n) [] h = tt
all_take P (suc n) (x ∷ xs) h = (h.0, all_take P n xs h.1)

puts_of_team : (agents agent : ℕ) (later : List Entry) → AllByRecursion (IsOfTeam agents) later → AllByRecursion (IsOfTeam agents) (puts_before_event agent later)
puts_of_team agents agent later h = all_take (IsOfTeam agents) _ (part later agent) (all_filter (IsOfTeam agents) (λ e. agent_of e == agent) later h)

-- ---- the whole log

event_lines : (agents number agent : ℕ) (later : List Entry) (event : Event) (lines : List Text) → agents ≤ 16 → IsOf agents event
    → AllByRecursion (IsOfTeam agents) later
    → schedule_of agents number (lines_of_event agent later event ++ lines)
    ≡ with_event event number (schedule_of agents (number + length (lines_of_event agent later event)) lines)
event_lines agents number agent later event lines team of h =
    let puts = filter_map put_line (puts_before_event agent later) in
    let further : number + 1 + length puts ≡ number + suc (length puts) = omega arith in
    event_front agents number event (puts ++ lines) team of
    ∙ ap (with_event event number) (puts_front agents (number + 1) (puts_before_event agent later) lines team (puts_of_team agents agent later h)
    ∙ ap (λ n. schedule_of agents n lines) further)

-- what an entry of the team is as an event is one of the team
abbrev IfOf : ℕ → Option Event → Type 0
IfOf agents None = Unit {0}
IfOf agents (Some event) = IsOf agents event

event_of_team : (agents : ℕ) (entry : Entry) → IsOfTeam agents entry → IfOf agents (event_of entry)
event_of_team agents (Act agent acts.Expand) h = h
event_of_team agents (Act agent acts.Start) h = tt
event_of_team agents (Put from to bytes) h = tt
event_of_team agents (Took by from bytes) h = pair_of agents by from h.0 h.1 h.2

entry_lines : (agents number agent : ℕ) (later : List Entry) (event : Option Event) (lines : List Text) (known : List EventLine) → agents ≤ 16
    → IfOf agents event → AllByRecursion (IsOfTeam agents) later
    → schedule_of agents (number + length (lines_if_event agent later event)) lines ≡ Ok known
    → schedule_of agents number (lines_if_event agent later event ++ lines) ≡ Ok (numbered number event ++ known)
entry_lines agents number agent later None lines known team of h is = rw add-zero at is
entry_lines agents number agent later (Some event) lines known team of h is =
    event_lines agents number agent later event lines team of h ∙ ap (with_event event number) is

-- lines at which a schedule is over
abbrev AreOver : ℕ → List Text → Type 0
AreOver agents lines = (number : ℕ) → schedule_of agents number lines ≡ Ok []

lines_read : (agents number : ℕ) (log : List Entry) (ends : List Text) → agents ≤ 16 → AllByRecursion (IsOfTeam agents) log → AreOver agents ends
    → schedule_of agents number (trace_lines log ++ ends) ≡ Ok (numbered_events number log)
lines_read agents number [] ends team h over = over number
lines_read agents number (entry ∷ later) ends team h over =
    let own = lines_if_event (agent_of entry) later (event_of entry) in
    ap (schedule_of agents number) (append_assoc own (trace_lines later) ends)
    ∙ entry_lines agents number (agent_of entry) later (event_of entry) (trace_lines later ++ ends) _ team (event_of_team agents entry h.0) h.1
    (lines_read agents (number + length own) later ends team h.1 over)

-- ---- no line of a trace has a line feed

plain_both : (a b : List Text) → ArePlain a → ArePlain b → ArePlain (a ++ b)
plain_both [] b h k = k
plain_both (line ∷ a) b h k = (h.0, plain_both a b h.1 k)

plain_puts : (agents : ℕ) (puts : List Entry) → agents ≤ 16 → AllByRecursion (IsOfTeam agents) puts → ArePlain (filter_map put_line puts)
plain_puts agents [] team h = tt
plain_puts agents (Act agent kind ∷ puts) team h = plain_puts agents puts team h.1
plain_puts agents (Took by from bytes ∷ puts) team h = plain_puts agents puts team h.1
plain_puts agents (Put from to bytes ∷ puts) team h =
    let g = good agents from to bytes h.0 in (plain_message agents from to bytes team g.pair g.fit, plain_puts agents puts team h.1)

plain_entry : (agents agent : ℕ) (later : List Entry) (event : Option Event) → agents ≤ 16 → IfOf agents event → AllByRecursion (IsOfTeam agents) later
    → ArePlain (lines_if_event agent later event)
plain_entry agents agent later None team of h = tt
plain_entry agents agent later (Some event) team of h =
    (plain_event agents event team of, plain_puts agents (puts_before_event agent later) team (puts_of_team agents agent later h))

plain_trace : (agents : ℕ) (log : List Entry) → agents ≤ 16 → AllByRecursion (IsOfTeam agents) log → ArePlain (trace_lines log)
plain_trace agents [] team h = tt
plain_trace agents (entry ∷ later) team h =
    plain_both (lines_if_event (agent_of entry) later (event_of entry)) (trace_lines later)
    (plain_entry agents (agent_of entry) later (event_of entry) team (event_of_team agents entry h.0) h.1)
    (plain_trace agents later team h.1)

read_before : (agents : ℕ) (log : List Entry) (text : Text) → agents ≤ 16 → All (IsOfTeam agents) log → AreOver agents (lines_of text)
    → schedule_in agents (trace_text log ++ text) ≡ Ok (numbered_events 1 log)
read_before agents log text team all over =
    let h = recursion_from_All (IsOfTeam agents) log all in
    ap (schedule_of agents 1) (lines_again (trace_lines log) text (plain_trace agents log team h))
    ∙ lines_read agents 1 log (lines_of text) team h over

pub trace_read : (agents : ℕ) (log : List Entry) → agents ≤ 16 → All (IsOfTeam agents) log
    → schedule_in agents (trace_text log) ≡ Ok (numbered_events 1 log)
trace_read agents log team all =
    ap (schedule_in agents) (sym (append-nil (trace_text log))) ∙ read_before agents log [] team all (λ number. refl)

end_plain : (end : Text) → is_end end ≡ true → IsPlain end
end_plain end h =
    elim (or_cases (bytes_eq end (codes "answer")) (bytes_eq end (codes "unfinished")) h) [
      | inl answer ↦ rw ((bytes_eq-Decides end (codes "answer")).0 answer) refl
      | inr unfinished ↦ rw ((bytes_eq-Decides end (codes "unfinished")).0 unfinished) refl
    ]

pub ended_read : (agents : ℕ) (log : List Entry) (end more : Text) → agents ≤ 16 → All (IsOfTeam agents) log → is_end end ≡ true
    → schedule_in agents (trace_text log ++ (end ++ 10 ∷ more)) ≡ Ok (numbered_events 1 log)
ended_read agents log end more team all h =
    let lines : lines_of (end ++ 10 ∷ more) ≡ end ∷ lines_of more =
    ap lines_of (sym (append_assoc end (10 ∷ []) more)) ∙ lines_first end more (end_plain end h) in
    read_before agents log (end ++ 10 ∷ more) team all (λ number. rw (lines, h) refl)

-- ---- the events are the schedule

events_by : (number : ℕ) (event : Option Event) (others : List EventLine) (log : List Entry) → map (λ line. line.event) others ≡ schedule log
    → map (λ line. line.event) (numbered number event ++ others) ≡ cons_option event (schedule log)
events_by number None others log h = h
events_by number (Some event) others log h = ap (λ rest. event ∷ rest) h

pub events_read : (number : ℕ) (log : List Entry) → map (λ line. line.event) (numbered_events number log) ≡ schedule log
events_read number [] = refl
events_read number (entry ∷ later) =
    events_by number (event_of entry) _ later (events_read (number + length (lines_if_event (agent_of entry) later (event_of entry))) later)
