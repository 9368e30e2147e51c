-- A schedule that is read event by event.
use Rattle.std.proofs.Common.{◌≡◌, refl, ap, ℕ, ◌++◌, ◌∷◌, [], List, append_assoc}
use Rattle.std.specs.Prelude.{Result, Ok, Err}
use Rattle.mp_messages.specs.declared.history.Event.{Event}
use Rattle.mp_text.specs.declared.schedule.EventLine.{EventLine}
use Rattle.mp_text.specs.Schedule.{with_event}

-- known events before those of a reading
abbrev pub behind_events : List EventLine → Result (List EventLine) ℕ → Result (List EventLine) ℕ
behind_events known (Ok lines) = Ok (known ++ lines)
behind_events known (Err refused) = Err refused

-- one event more is known
pub behind-more : (known : List EventLine) (event : Event) (number : ℕ) (read : Result (List EventLine) ℕ)
    → behind_events (known ++ record { event = event; line = number } ∷ []) read
    ≡ behind_events known (with_event event number read)
behind-more known event number (Ok lines) = ap Ok (append_assoc known _ lines)
behind-more known event number (Err refused) = refl
