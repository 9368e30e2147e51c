-- Predicates and functions with their typed variables, and private blocks of them (factored PDDL).
use Rattle.std.specs.Prelude.{◌||◌, not, Bool, true, false, List, [], ◌∷◌, if◌then◌else◌, codes}
use Rattle.mp_sexp.specs.declared.tree.Place.{Place}
use Rattle.mp_sexp.specs.Node.{Node}
use Rattle.mp_forms.specs.declared.word.Word.{Word}
use Rattle.mp_forms.specs.declared.typed_values.Typed.{Typed}
use Rattle.mp_forms.specs.declared.signature_values.Signature.{Signature}
use Rattle.mp_forms.specs.Parts.{is_word, place_of, parts, is_list, is_headed, is_fixed_word}
use Rattle.mp_forms.specs.Reading.{Reading, misshapen, said, both, keyword}
use Rattle.mp_forms.specs.Rules.Words.{name_rule}
use Rattle.mp_forms.specs.Rules.Typed.{Listing, typed_rule, variables, with_blocks}

-- the name of a predicate has no meaning of its own
unfoldable pub declared_predicate : Node → Reading Word
declared_predicate node = if is_fixed_word node then misshapen (place_of node) else name_rule node

-- and so is the name of a function, but for `total-cost`
unfoldable pub declared_function : Node → Reading Word
declared_function node = if is_word (codes "total-cost") node then name_rule node else declared_predicate node

-- `(:private ..)`
abbrev pub is_block : Node → Bool
is_block node = is_headed (codes ":private") node

abbrev pub signature_of : Bool → Word → List Typed → Signature
signature_of private word params = record { word = word; params = params; private = private }

abbrev pub signature_members : Bool → (Node → Reading Word) → Place → List Node → Reading Signature
signature_members private name whole [] = misshapen whole
signature_members private name whole (head ∷ params) =
    both (signature_of private) (name head) (typed_rule variables whole params)

-- `(NAME TYPED-VARIABLES)`, with a name by this rule
unfoldable pub signature_rule : Bool → (Node → Reading Word) → Node → Reading Signature
signature_rule private name node = signature_members private name (place_of node) (parts node)

-- what is no signature: a word or a block
abbrev pub is_no_signature : Node → Bool
is_no_signature node = not (is_list node) || is_block node

-- signatures without blocks: their type is `number`, where they take one
abbrev pub signatures : Bool → Bool → (Node → Reading Word) → Listing Signature (Unit {0})
signatures takes_number private name = record {
  item = λ node. said (λ signature type. signature) (signature_rule private name node);
  takes_type = takes_number;
  type = keyword (codes "number");
  untyped = tt;
  is_block = is_no_signature;
  block = λ node. misshapen (place_of node);
}

-- the members of `:predicates`, and of `:functions`
abbrev pub predicates : Listing Signature (Unit {0})
predicates = with_blocks (signatures false false declared_predicate) (signatures false true declared_predicate)

abbrev pub functions : Listing Signature (Unit {0})
functions = with_blocks (signatures true false declared_function) (signatures true true declared_function)
