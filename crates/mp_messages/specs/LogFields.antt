-- What the lines of a log stand for, whose messages lie in one area of bytes.
use Rattle.std.specs.Prelude.{ℕ, ◌≤◌, List, [], length, map, All, slice_range}
use Rattle.mp_messages.specs.declared.history.Entry.{Entry}
use Rattle.mp_messages.specs.declared.history.Entry.TheVariants.{Act, Put, Took}
use Rattle.mp_messages.specs.declared.lines.EntryView.{EntryView}
use Rattle.mp_messages.specs.declared.lines.EntryView.TheVariants as view
use Rattle.mp_messages.specs.declared.lines.Line.{Line}
use Rattle.mp_messages.specs.declared.lines.Line.TheVariants as line
use Rattle.mp_messages.specs.declared.lines.Place.{Place}

-- the bytes at a place
abbrev pub bytes_at : List ℕ → Place → List ℕ
bytes_at area p = slice_range area p.start p.end

-- a place in an area of so many bytes
abbrev pub IsPlace : ℕ → Place → Type 0
IsPlace size p = (p.start ≤ p.end) × (p.end ≤ size)

-- the entry of a line
abbrev pub entry_in : List ℕ → Line → Entry
entry_in area (line.Act agent kind) = Act agent kind
entry_in area (line.Put from to p) = Put from to (bytes_at area p)
entry_in area (line.Took by from p) = Took by from (bytes_at area p)

-- the entries of lines
abbrev pub entries_in : List ℕ → List Line → List Entry
entries_in area lines = map (entry_in area) lines

-- the message of a line lies in an area of so many bytes
abbrev pub IsInside : ℕ → Line → Type 0
IsInside size (line.Act agent kind) = Unit {0}
IsInside size (line.Put from to p) = IsPlace size p
IsInside size (line.Took by from p) = IsPlace size p

abbrev pub AreInside : List ℕ → List Line → Type 0
AreInside area lines = All (IsInside (length area)) lines

-- the message of an entry, and no bytes where it has none
abbrev pub bytes_of : Entry → List ℕ
bytes_of (Act agent kind) = []
bytes_of (Put from to bytes) = bytes
bytes_of (Took by from bytes) = bytes

-- the entry that a view shows
abbrev pub shown : EntryView → Entry
shown (view.Act agent kind) = Act agent kind
shown (view.Put from to bytes) = Put from to bytes.now
shown (view.Took by from bytes) = Took by from bytes.now
