-- The messages that an agent puts before its next event, entry by entry.
use Rattle.std.proofs.Common.{◌≡◌, sym, ap, ◌∙◌, ℕ, ◌+◌, ◌==◌, true, false, ◌++◌, ◌∷◌, [], List, drop, append_assoc}
use Rattle.std.specs.List.{filter_map}
use Rattle.std.proofs.lemmas.Grind.{flat_map-append}
use Rattle.std.proofs.lemmas.List.Sums.{take_while-cons}
use Rattle.mp_messages.specs.History.{agent_of, event_of, part}
use Rattle.mp_messages.specs.declared.history.Entry.{Entry}
use Rattle.mp_messages.specs.declared.history.Entry.TheVariants.{Put}
use Rattle.mp_text.specs.Lines.{Text, text_of_lines}
use Rattle.mp_text.specs.Trace.{is_put, lines_if_event, message_line, put_line, puts_before_event, trace_lines, trace_text}

pub put_own : (agent from to : ℕ) (bytes : List ℕ) (later : List Entry) → (from == agent) ≡ true
    → puts_before_event agent (Put from to bytes ∷ later) ≡ Put from to bytes ∷ puts_before_event agent later
put_own agent from to bytes later own = rw (own, take_while-cons is_put (Put from to bytes) (part later agent))

pub of_another : (agent : ℕ) (entry : Entry) (later : List Entry) → (agent_of entry == agent) ≡ false
    → puts_before_event agent (entry ∷ later) ≡ puts_before_event agent later
of_another agent entry later other = rw other

-- the lines of these messages, as one text
abbrev pub put_text : ℕ → List Entry → Text
put_text agent later = text_of_lines (filter_map put_line (puts_before_event agent later))

-- an entry of another agent changes nothing
pub passed : (agent i : ℕ) (later : List Entry) (entry : Entry) (text whole : Text)
    → drop i later ≡ entry ∷ drop (i + 1) later → (agent_of entry == agent) ≡ false
    → text ++ put_text agent (drop i later) ≡ whole → text ++ put_text agent (drop (i + 1) later) ≡ whole
passed agent i later entry text whole is other known =
    rw (is, of_another agent entry (drop (i + 1) later) other) at known

-- a message of the agent adds its line
pub added : (agent from to i : ℕ) (bytes : List ℕ) (later : List Entry) (entry : Entry) (text whole : Text)
    → drop i later ≡ entry ∷ drop (i + 1) later → entry ≡ Put from to bytes → (from == agent) ≡ true
    → text ++ put_text agent (drop i later) ≡ whole
    → (text ++ (message_line from to bytes ++ 10 ∷ [])) ++ put_text agent (drop (i + 1) later) ≡ whole
added agent from to i bytes later entry text whole is puts own known =
    append_assoc text _ _ ∙ rw (is, puts, put_own agent from to bytes (drop (i + 1) later) own) at known

-- an entry adds its lines to the text of a run
pub entry_added : (i : ℕ) (log : List Entry) (entry : Entry) (text more whole : Text)
    → drop i log ≡ entry ∷ drop (i + 1) log
    → more ≡ text ++ text_of_lines (lines_if_event (agent_of entry) (drop (i + 1) log) (event_of entry))
    → text ++ trace_text (drop i log) ≡ whole → more ++ trace_text (drop (i + 1) log) ≡ whole
entry_added i log entry text more whole is grown known =
    let later = drop (i + 1) log in
    let lines = lines_if_event (agent_of entry) later (event_of entry) in
    ap (λ t. t ++ trace_text later) grown
    ∙ append_assoc text (text_of_lines lines) (trace_text later)
    ∙ ap (λ t. text ++ t) (sym (flat_map-append (λ (line : Text). line ++ 10 ∷ []) lines (trace_lines later)))
    ∙ ap (λ entries. text ++ trace_text entries) (sym is)
    ∙ known
