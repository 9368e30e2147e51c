-- A trace tells no more than the schedule and each agent's part of the log.
use Rattle.std.proofs.Common.{◌≡◌, ℕ, Bool, true, false, List, [], ◌∷◌, ◌++◌, Some, refl, sym, ap, ◌∙◌, drop}
use Rattle.std.specs.Prelude.{◌==◌, All, if◌then◌else◌}
use Rattle.std.specs.List.{filter_map, take_while}
use Rattle.std.proofs.lemmas.Bool.{eq-eqb, eqb-true}
use Rattle.std.proofs.lemmas.List.Elements.{All-head, All-tail}
use Rattle.mp_messages.specs.declared.history.Entry.{Entry}
use Rattle.mp_messages.specs.declared.history.Entry.TheVariants.{Act, Put, Took}
use Rattle.mp_messages.specs.declared.history.Kind.TheVariants as acts
use Rattle.mp_messages.specs.declared.history.Event.{Event}
use Rattle.mp_messages.specs.declared.history.Event.TheVariants as events
use Rattle.mp_messages.specs.History.{agent_of as owner_of, event_of, part, schedule}
use Rattle.mp_world.specs.Events.{agent_of}
use Rattle.mp_text.specs.Lines.{Text}
use Rattle.mp_text.specs.Trace.{event_line, is_put, lines_if_event, put_line, trace_lines}

-- where an entry is an event, it is one of the agent whose entry it is
abbrev pub IsOwnEvent : Entry → Type 0
IsOwnEvent e = (event : Event) → event_of e ≡ Some event → owner_of e ≡ agent_of event

-- entries from the first event on
abbrev from_event : List Entry → List Entry
from_event [] = []
from_event (e ∷ es) = if is_put e then from_event es else e ∷ es

-- the lines of a schedule, where each agent has these entries from its next event on
abbrev told : List Event → (ℕ → List Entry) → List Text
told [] own = []
told (event ∷ events) own =
    (event_line event ∷ filter_map put_line (take_while is_put (drop 1 (own (agent_of event)))))
    ++ told events (λ a. if a == agent_of event then from_event (drop 1 (own (agent_of event))) else own a)

-- what each agent has from its next event on
abbrev own_of : List Entry → ℕ → List Entry
own_of log a = from_event (part log a)

-- a message that was put before is none of it
put_passed : (from to : ℕ) (bytes : List ℕ) (later : List Entry) (a : ℕ)
    → own_of (Put from to bytes ∷ later) a ≡ own_of later a
put_passed from to bytes later a = by (from == a)
  where
    by : (b : Bool) → from_event (if b then Put from to bytes ∷ part later a else part later a) ≡ own_of later a
    by true = refl
    by false = refl

-- an event
module _ (e : Entry) (event : Event) (later : List Entry) (is : event_of e ≡ Some event) (act : is_put e ≡ false)
    (own : owner_of e ≡ agent_of event) where
  mine : own_of (e ∷ later) (agent_of event) ≡ e ∷ part later (agent_of event)
  mine = rw (eq-eqb (owner_of e) (agent_of event) own, act) refl

  on : (a : ℕ)
      → (if a == agent_of event then from_event (drop 1 (own_of (e ∷ later) (agent_of event))) else own_of (e ∷ later) a)
      ≡ own_of later a
  on a = by (a == agent_of event) refl
    where
      other : (a == agent_of event) ≡ false → (b : Bool) → (owner_of e == a) ≡ b → b ≡ false
      other test true same =
          sym (eq-eqb a (agent_of event) (sym (eqb-true (owner_of e) a same) ∙ own)) ∙ test
      other test false same = refl

      by : (b : Bool) → (a == agent_of event) ≡ b
          → (if b then from_event (drop 1 (own_of (e ∷ later) (agent_of event))) else own_of (e ∷ later) a) ≡ own_of later a
      by true test =
          ap (λ es. from_event (drop 1 es)) mine ∙ ap (own_of later) (sym (eqb-true a (agent_of event) test))
      by false test = rw (other test (owner_of e == a) refl) refl

  event_told : trace_lines later ≡ told (schedule later) (own_of later)
      → trace_lines (e ∷ later) ≡ told (schedule (e ∷ later)) (own_of (e ∷ later))
  event_told more =
      ap (λ o. lines_if_event (owner_of e) later o ++ trace_lines later) is
      ∙ (λ i. (event_line event ∷ filter_map put_line (take_while is_put (part later (own i)))) ++ more i)
      ∙ (λ i. (event_line event ∷ filter_map put_line (take_while is_put (drop 1 (sym mine i))))
      ++ told (schedule later) (λ a. sym (on a) i))
      ∙ ap (λ events. told events (own_of (e ∷ later))) sched
    where
      sched : event ∷ schedule later ≡ schedule (e ∷ later)
      sched = rw is refl

trace_told : (log : List Entry) → All IsOwnEvent log → trace_lines log ≡ told (schedule log) (own_of log)
trace_told [] all = refl
trace_told (Put from to bytes ∷ later) all =
    trace_told later (All-tail IsOwnEvent (Put from to bytes) later all)
    ∙ ap (told (schedule later)) (λ i a. sym (put_passed from to bytes later a) i)
trace_told (Act agent acts.Expand ∷ later) all =
    event_told (Act agent acts.Expand) (events.Expand agent) later refl refl refl
    (trace_told later (All-tail IsOwnEvent (Act agent acts.Expand) later all))
trace_told (Act agent acts.Start ∷ later) all =
    event_told (Act agent acts.Start) events.Start later refl refl
    (All-head IsOwnEvent (Act agent acts.Start) later all events.Start refl)
    (trace_told later (All-tail IsOwnEvent (Act agent acts.Start) later all))
trace_told (Took by from bytes ∷ later) all =
    event_told (Took by from bytes) (events.Take by from) later refl refl refl
    (trace_told later (All-tail IsOwnEvent (Took by from bytes) later all))

pub same_lines : (log other : List Entry) → All IsOwnEvent log → All IsOwnEvent other → schedule other ≡ schedule log
    → ((agent : ℕ) → part other agent ≡ part log agent) → trace_lines other ≡ trace_lines log
same_lines log other own also same parts =
    trace_told other also
    ∙ (λ i. told (same i) (λ a. from_event (parts a i)))
    ∙ sym (trace_told log own)
