-- Messages that join what waits at a post one by one, and how they are taken back.
use Rattle.std.specs.Prelude.{◌<◌, ◌-◌, ℕ, suc, List, [], ◌∷◌, ◌++◌, length, slice_index_or, slice_set, take}
use Rattle.mp_messages.specs.declared.history.Entry.{Entry}
use Rattle.mp_messages.specs.declared.history.Entry.TheVariants.{Act, Put, Took}
use Rattle.mp_stamps.specs.Mail.{Mail}
use Rattle.mp_post_rule.specs.Queues.{mail}

-- there is a queue for whom an entry puts a message to
abbrev pub HasQueue : ℕ → Entry → Type 0
HasQueue queues (Act by kind) = Unit {0}
HasQueue queues (Put from to bytes) = to - 1 < queues
HasQueue queues (Took by from bytes) = Unit {0}

-- the message that an entry puts is behind the others in its queue
abbrev pub with_mail : ℕ → Entry → List (List Mail) → List (List Mail)
with_mail stamp (Act by kind) rows = rows
with_mail stamp (Put from to bytes) rows =
    slice_set rows (to - 1) (slice_index_or rows (to - 1) [] ++ mail stamp bytes ∷ [])
with_mail stamp (Took by from bytes) rows = rows

-- so are those of a batch, which has the stamps after this one
abbrev pub with_all : ℕ → List Entry → List (List Mail) → List (List Mail)
with_all last [] rows = rows
with_all last (e ∷ es) rows = with_all (suc last) es (with_mail (suc last) e rows)

-- all but the last one of some messages
abbrev pub but_last : List Mail → List Mail
but_last row = take (length row - 1) row

-- the last message of the queue to which an entry puts one is gone
abbrev pub without_mail : Entry → List (List Mail) → List (List Mail)
without_mail (Act by kind) rows = rows
without_mail (Put from to bytes) rows = slice_set rows (to - 1) (but_last (slice_index_or rows (to - 1) []))
without_mail (Took by from bytes) rows = rows

-- so are those of a batch, the last entry's first
abbrev pub without_all : List Entry → List (List Mail) → List (List Mail)
without_all [] rows = rows
without_all (e ∷ es) rows = without_mail e (without_all es rows)
