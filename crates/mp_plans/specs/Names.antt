-- The name of a step's action and its arguments, with a blank between each two.
use Rattle.std.specs.Prelude.{ℕ, ◌==◌, Bool, not, List, [], Option, Some, None, if◌then◌else◌}
use Rattle.std.specs.List.{list_all, slice_split}
use Rattle.std.specs.Option.{option_map_or}
use Rattle.mp_forms.specs.Kinds.{is_name}
use Rattle.mp_text.specs.Lines.{Text}

abbrev pub is_blank : ℕ → Bool
is_blank byte = byte == 32

abbrev pub is_within_word : ℕ → Bool
is_within_word byte = not (is_blank byte)

-- the words of a text, where there is one
abbrev pub words_left : Option Text → List Text
words_left text = option_map_or (slice_split is_blank) text []

-- a word, where it is a name as files have them, without capital letters
abbrev pub if_name : Text → Option Text
if_name word = if is_name word then Some word else None

-- words, where all are names
abbrev pub if_names : List Text → Option (List Text)
if_names words = if list_all is_name words then Some words else None
