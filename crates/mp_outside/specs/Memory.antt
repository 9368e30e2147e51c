-- The files that a source in memory holds.
use Rattle.std.specs.Prelude.{ℕ, Option, Some, None, List, [], ◌∷◌, drop, if◌then◌else◌, slice_get, string_bytes}
use Rattle.std.specs.Option.{option_map}
use Rattle.std.specs.Str.{bytes_eq}
use Rattle.mp_outside.specs.Source.{Files}
use Rattle.mp_outside.specs.declared.named_text.NamedText.{NamedText}

-- the bytes of the first file of a name
abbrev pub held_in : List NamedText → Files
held_in [] name = None
held_in (f ∷ fs) name = if bytes_eq (string_bytes f.name) name then Some f.text.items else held_in fs name

-- the name of the file at a place, counted from 0
abbrev pub name_at : List NamedText → ℕ → Option (List ℕ)
name_at files place = option_map (λ f. string_bytes f.name) (slice_get files place)

-- the bytes of that file from one of them on
abbrev pub rest_at : List NamedText → ℕ → ℕ → Option (List ℕ)
rest_at files place from = option_map (λ f. drop from f.text.items) (slice_get files place)
