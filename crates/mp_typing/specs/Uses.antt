-- Names that are used: each is to be declared, and to be applied to as many terms as declared (PDDL 2.1).
use Rattle.std.specs.Prelude.{ℕ, ◌==◌, ◌&&◌, Bool, List, [], ◌∷◌, ◌++◌, length, Option, Some, None, if◌then◌else◌, codes}
use Rattle.std.specs.List.{list_any, flat_map}
use Rattle.std.specs.Option.{is_none}
use Rattle.std.specs.Str.{bytes_eq}
use Rattle.mp_forms.specs.declared.files.File.{File}
use Rattle.mp_forms.specs.declared.word.Word.{Word}
use Rattle.mp_forms.specs.declared.typed_values.Typed.{Typed}
use Rattle.mp_forms.specs.declared.atom_values.Term.{Term}
use Rattle.mp_forms.specs.declared.atom_values.Term.TheVariants.{Variable, Object}
use Rattle.mp_forms.specs.declared.atom_values.Atom.{Atom}
use Rattle.mp_forms.specs.declared.literal.Literal.{Literal}
use Rattle.mp_forms.specs.declared.factor.Factor.{Factor}
use Rattle.mp_forms.specs.declared.effect_values.Increase.{Increase}
use Rattle.mp_forms.specs.declared.effect_values.Increase.TheVariants.{Number, Function}
use Rattle.mp_typing.specs.declared.fault.Fault.{Fault}
use Rattle.mp_typing.specs.declared.fault.FaultKind.TheVariants.{Unknown, Arity}
use Rattle.mp_typing.specs.Faults.{fault_at}
use Rattle.mp_typing.specs.Lookups.{arity_of, is_object, objects_of}

-- a variable is one of these parameters, an object is declared
unfoldable pub is_declared : List Typed → Factor → Term → Bool
is_declared params factor (Variable word) = list_any (λ p. bytes_eq p.word.name word.name) params
is_declared params factor (Object word) = is_object (objects_of factor) word.name

-- the word that a term is
abbrev pub word_of : Term → Word
word_of (Variable word) = word
word_of (Object word) = word

-- a term of an atom or a function
unfoldable pub term_faults : File → List Typed → Factor → Term → List Fault
term_faults file params factor term =
    if is_declared params factor term then [] else fault_at Unknown file (word_of term) ∷ []

-- a word that is applied to so many terms, and was declared with so many parameters, or not at all
unfoldable pub applied_faults : File → Word → ℕ → Option ℕ → List Fault
applied_faults file word count None = fault_at Unknown file word ∷ []
applied_faults file word count (Some declared) = if count == declared then [] else fault_at Arity file word ∷ []

-- a predicate and its terms
unfoldable pub atom_faults : File → List Typed → Factor → Atom → List Fault
atom_faults file params factor atom =
    applied_faults file atom.word (length atom.terms) (arity_of factor.domain.predicates atom.word.name)
    ++ flat_map (term_faults file params factor) atom.terms

-- a literal: its atom, also where that stands under `not`
unfoldable pub literal_faults : File → List Typed → Factor → Literal → List Fault
literal_faults file params factor literal = atom_faults file params factor literal.atom

-- `total-cost` needs no declaration
unfoldable pub called_faults : File → Word → ℕ → Option ℕ → List Fault
called_faults file word count declared =
    if bytes_eq word.name (codes "total-cost") && is_none declared then [] else applied_faults file word count declared

-- a function and its terms
unfoldable pub function_faults : File → List Typed → Factor → Atom → List Fault
function_faults file params factor function =
    called_faults file function.word (length function.terms) (arity_of factor.domain.functions function.word.name)
    ++ flat_map (term_faults file params factor) function.terms

-- an increase by a number uses no name
unfoldable pub increase_faults : File → List Typed → Factor → Increase → List Fault
increase_faults file params factor (Number cost) = []
increase_faults file params factor (Function function) = function_faults file params factor function
