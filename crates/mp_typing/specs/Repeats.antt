-- Names that are declared more than once.
use Rattle.std.specs.Prelude.{Bool, true, false, not, ◌==◌, nat_lt, ◌&&◌, ◌||◌, List, [], ◌∷◌, ◌++◌, map, Option, Some, None, if◌then◌else◌}
use Rattle.std.specs.List.{list_any, find}
use Rattle.std.specs.Cmp.Lexicographic.{pointwise}
use Rattle.std.specs.Str.{bytes_eq}
use Rattle.mp_list.specs.Repeats.{repeats}
use Rattle.mp_sexp.specs.declared.tree.Place.{Place}
use Rattle.mp_forms.specs.declared.files.File.{File}
use Rattle.mp_forms.specs.declared.files.File.TheVariants.{Domain}
use Rattle.mp_forms.specs.declared.word.Word.{Word}
use Rattle.mp_forms.specs.declared.typed_values.Typed.{Typed}
use Rattle.mp_typing.specs.declared.fault.Fault.{Fault}
use Rattle.mp_typing.specs.declared.fault.FaultKind.TheVariants.{Twice}
use Rattle.mp_typing.specs.Faults.{fault_at}

-- two words with one name
abbrev pub is_same : Word → Word → Bool
is_same a b = bytes_eq a.name b.name

-- a word, where it is a second declaration
abbrev pub twice_if : Bool → File → Word → List Fault
twice_if is_second file word = if is_second then fault_at Twice file word ∷ [] else []

-- the items that have the name of an item before them, by the words that declare them
unfoldable pub repeated_faults : {X : Type 0} → File → (X → Word) → List X → List Fault
repeated_faults file word_of items =
    map (λ x. fault_at Twice file (word_of x)) (repeats bytes_eq (λ x. (word_of x).name) items)

-- a place stands before another in a file
abbrev pub is_before : Place → Place → Bool
is_before a b = nat_lt a.line b.line || (a.line == b.line && nat_lt a.column b.column)

-- A parameter that stands between these in a list comes second: one of its name stands before it in the file, or has
-- its place and comes before it in the list.
abbrev pub is_second : List Typed → Typed → List Typed → Bool
is_second before param behind =
    list_any (λ p. is_same p.word param.word && not (is_before param.word.at p.word.at)) before
    || list_any (λ p. is_same p.word param.word && is_before p.word.at param.word.at) behind

-- Parameters of an action, behind earlier ones of a list. The agent is the first of that list wherever it stands in the
-- file, and so it may be the second of its name.
unfoldable pub parameter_faults : List Typed → List Typed → List Fault
parameter_faults before [] = []
parameter_faults before (p ∷ ps) = twice_if (is_second before p ps) Domain p.word ++ parameter_faults (before ++ p ∷ []) ps

-- both private, or both public
abbrev pub is_same_privacy : Bool → Bool → Bool
is_same_privacy true private = private
is_same_privacy false private = not private

-- objects of the same types as they are written, and the same privacy
unfoldable pub is_alike : Typed → Typed → Bool
is_alike a b = pointwise is_same a.types b.types && is_same_privacy a.private b.private

-- an object, by the first of its name
abbrev pub unlike_faults : File → Option Typed → Typed → List Fault
unlike_faults file None object = []
unlike_faults file (Some first) object = if is_alike first object then [] else fault_at Twice file object.word ∷ []

-- an object is like the first of all objects that has its name
unfoldable pub object_faults : File → List Typed → Typed → List Fault
object_faults file all object = unlike_faults file (find (λ o. is_same o.word object.word) all) object
