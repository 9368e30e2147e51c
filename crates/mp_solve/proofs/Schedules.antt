-- The events of a schedule that was read are of the team.
use Rattle.std.proofs.Common.{◌≡◌, ℕ, ◌+◌, ◌≤◌, Bool, true, false, List, [], ◌∷◌, Option, Some, None, refl, sym, subst}
use Rattle.std.specs.Prelude.{All, Result, Ok, Err, if◌then◌else◌}
use Rattle.std.specs.Str.{bytes_eq}
use Rattle.std.proofs.lemmas.Bool.{eqb-false}
use Rattle.std.proofs.lemmas.List.Elements.{All-cons, All-nil}
use Rattle.mp_messages.specs.declared.history.Event.{Event}
use Rattle.mp_messages.specs.declared.history.Event.TheVariants.{Expand, Take, Start}
use Rattle.mp_schedule.specs.Happening.{IsOfTeam}
use Rattle.mp_text.specs.Lines.{Text, lines_of}
use Rattle.mp_text.specs.Schedule.{event_in, events_of, is_end, is_message, line_then, schedule_in, schedule_of, with_event}
use Rattle.mp_text.specs.Trace.{event_line}
use Rattle.mp_text.specs.declared.schedule.EventLine.{EventLine}
use Rattle.mp_text.proofs.MemberLemmas.{found_member}
use Rattle.mp_text.proofs.TeamLemmas.{IsOf, of_events}

module _ (agents : ℕ) (some : 1 ≤ agents) where
  abbrev IsLineOfTeam : EventLine → Type 0
  IsLineOfTeam line = IsOfTeam agents line.event

  abbrev AreOfTeam : List EventLine → Type 0
  AreOfTeam lines = All IsLineOfTeam lines

  of_team : (event : Event) → IsOf agents event → IsOfTeam agents event
  of_team (Expand agent) h = h.1
  of_team (Take by from) h = (h.few, h.other_few, λ same. eqb-false by from h.differ (sym same))
  of_team Start h = some

  event_of_team : (line : Text) (event : Event) → event_in agents line ≡ Some event → IsOfTeam agents event
  event_of_team line event found =
      of_team event (of_events agents event
      (found_member (λ e. bytes_eq (event_line e) line) (events_of agents) event found).0)

  -- a line more at the front
  with_one : (event : Event) (number : ℕ) (rest : Result (List EventLine) ℕ) (lines : List EventLine)
      → IsOfTeam agents event → ((later : List EventLine) → rest ≡ Ok later → AreOfTeam later)
      → with_event event number rest ≡ Ok lines → AreOfTeam lines
  with_one event number (Ok later) lines own others is =
      let line : EventLine = record { event = event; line = number } in
      let whole : line ∷ later ≡ lines = cc in
      subst AreOfTeam whole (All-cons IsLineOfTeam line later own (others later refl))
  with_one event number (Err refused) lines own others is = absurd (let impossible : ⊥ = cc in impossible)

  by_line : (line : Text) (found : Option Event) (message : Bool) (number : ℕ) (rest : Result (List EventLine) ℕ)
      (lines : List EventLine) → event_in agents line ≡ found
      → ((later : List EventLine) → rest ≡ Ok later → AreOfTeam later)
      → line_then found message number rest ≡ Ok lines → AreOfTeam lines
  by_line line (Some event) message number rest lines found others is =
      with_one event number rest lines (event_of_team line event found) others is
  by_line line None true number rest lines found others is = others lines is
  by_line line None false number rest lines found others is = absurd (let impossible : ⊥ = cc in impossible)

  by_end : (ends : Bool) (rest : Result (List EventLine) ℕ) (lines : List EventLine)
      → ((later : List EventLine) → rest ≡ Ok later → AreOfTeam later)
      → (if ends then Ok [] else rest) ≡ Ok lines → AreOfTeam lines
  by_end true rest lines others is =
      let none : [] ≡ lines = cc in subst AreOfTeam none (All-nil IsLineOfTeam)
  by_end false rest lines others is = others lines is

  of_lines : (number : ℕ) (texts : List Text) (lines : List EventLine) → schedule_of agents number texts ≡ Ok lines
      → AreOfTeam lines
  of_lines number [] lines is = let none : [] ≡ lines = cc in subst AreOfTeam none (All-nil IsLineOfTeam)
  of_lines number (line ∷ texts) lines is =
      by_end (is_end line) _ lines
      (λ later there. by_line line (event_in agents line) (is_message agents line) number (schedule_of agents (number + 1) texts)
      later refl (of_lines (number + 1) texts) there) is

  pub of_schedule : (text : Text) (lines : List EventLine) → schedule_in agents text ≡ Ok lines → AreOfTeam lines
  of_schedule text lines is = of_lines 1 (lines_of text) lines is
