-- What waits at a post, and what a batch adds to it.
use Rattle.std.specs.Prelude.{◌≡◌, ◌-◌, ℕ, suc, Bool, true, false, List, [], ◌∷◌, ◌++◌, drop, length, slice_index_or, slice_set, Option, Some, None}
use Rattle.std.specs.List.{filter}
use Rattle.mp_messages.specs.declared.history.Entry.{Entry}
use Rattle.mp_messages.specs.declared.history.Entry.TheVariants.{Act, Put, Took}
use Rattle.mp_stamps.specs.Lists.{IsOther, puts}
use Rattle.mp_stamps.specs.Mail.{Mail}
use Rattle.mp_stamps.specs.declared.stamped.Stamped.{Stamped}
use Rattle.mp_post_rule.specs.declared.kept.Kept.{Kept}

abbrev pub mail : ℕ → List ℕ → Mail
mail stamp bytes = record { stamp = stamp; bytes = bytes }

-- the messages that wait at a post for an agent
abbrev pub waiting_for : ℕ → Kept → List Mail
waiting_for to kept = slice_index_or kept.waiting (to - 1) []

-- what an agent put for each one joins what waits for it, from some agent on
abbrev pub with_puts_from : ℕ → ℕ → List Stamped → List (List Mail) → List (List Mail)
with_puts_from from to list [] = []
with_puts_from from to list (row ∷ rows) = (row ++ puts from to list) ∷ with_puts_from from (suc to) list rows

abbrev pub with_puts : ℕ → List Stamped → Kept → Kept
with_puts from list kept = record kept { waiting = with_puts_from from 1 list kept.waiting }

-- the oldest message for an agent is gone
abbrev pub without_oldest : ℕ → Kept → Kept
without_oldest to kept = record kept { waiting = slice_set kept.waiting (to - 1) (drop 1 (waiting_for to kept)) }

-- an agent is named as halted where none was
abbrev pub first_halted : ℕ → Option ℕ → Option ℕ
first_halted agent None = Some agent
first_halted agent (Some other) = Some other

abbrev pub with_halted : ℕ → Kept → Kept
with_halted agent kept = record kept { halted = first_halted agent kept.halted }

-- an entry of a batch: what the agent did, or a message to another agent
abbrev pub IsSignable : ℕ → ℕ → Entry → Type 0
IsSignable agents agent (Act by kind) = by ≡ agent
IsSignable agents agent (Put from to bytes) = (from ≡ agent) × IsOther agents agent to
IsSignable agents agent (Took by from bytes) = ⊥

abbrev pub is_put : Entry → Bool
is_put (Act agent kind) = false
is_put (Put from to bytes) = true
is_put (Took by from bytes) = false

abbrev pub count_puts : List Entry → ℕ
count_puts batch = length (filter is_put batch)

-- entries get the stamps after the last one, one by one
abbrev pub stamped_after : ℕ → List Entry → List Stamped
stamped_after last [] = []
stamped_after last (e ∷ es) = record { stamp = suc last; entry = e } ∷ stamped_after (suc last) es
