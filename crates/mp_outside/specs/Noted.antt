-- What a source in memory notes of the acts that are done at it.
use Rattle.std.specs.Prelude.{Bool, true, false, List, [], map, Option, Some, None}
use Rattle.std.specs.Option.{unwrap_or}
use Rattle.mp_outside.specs.Acts.{Act}
use Rattle.mp_outside.specs.Acts.Act.{began, took}
use Rattle.mp_outside.specs.Memory.{name_at}
use Rattle.mp_outside.specs.declared.named_text.NamedText.{NamedText}
use Rattle.mp_outside.specs.declared.notes.Note.{Note}
use Rattle.mp_outside.specs.declared.notes.Note.TheVariants.{Began, Took}
use Rattle.mp_outside.specs.declared.notes.Notes.{Notes}

-- the act of a note
abbrev pub act_of : List NamedText → Note → Act
act_of files (Began place) = began (unwrap_or (name_at files place) [])
act_of files (Took count) = took count

-- the acts of all notes, where none is missing
abbrev pub acts_in : List NamedText → Bool → List Note → Option (List Act)
acts_in files true notes = Some (map (act_of files) notes)
acts_in files false notes = None

abbrev pub acts_of : List NamedText → Notes → Option (List Act)
acts_of files notes = acts_in files notes.whole notes.notes.items
