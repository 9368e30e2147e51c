-- Faults of a tree, and which of two comes first.
use Rattle.std.specs.Prelude.{ℕ, Bool, List, [], ◌∷◌}
use Rattle.std.specs.Ordering.{is_lt, nat_cmp}
use Rattle.std.specs.Cmp.Lexicographic.{slice_cmp}
use Rattle.mp_list.specs.First.{IsFirst as IsFirstBy}
use Rattle.mp_sexp.specs.declared.tree.Place.{Place}
use Rattle.mp_sexp.specs.Node.{Node}
use Rattle.mp_forms.specs.Parts.{place_of, word_of}
use Rattle.mp_forms.specs.declared.fault.Fault.{Fault}
use Rattle.mp_forms.specs.declared.fault.FaultKind.{FaultKind}
use Rattle.mp_forms.specs.declared.fault.FaultKind.TheVariants.{Shape, Unsupported, Parameters, Cost}

-- a fault of a kind that tells no word
abbrev pub fault_at : Place → FaultKind → Fault
fault_at place kind = record {
  place = place;
  kind = kind;
  word = [];
}

-- the fault of a word that is not supported
abbrev pub unsupported_fault : Node → Fault
unsupported_fault node = record {
  place = place_of node;
  kind = Unsupported;
  word = word_of node;
}

-- which fault at one place is answered: shape before support before cost
abbrev pub rank_of : FaultKind → ℕ
rank_of Shape = 0
rank_of Unsupported = 1
rank_of Parameters = 2
rank_of Cost = 3

-- what faults are compared by, the first number first; one place of a text has one word alone
abbrev pub order_of : Fault → List ℕ
order_of fault = fault.place.line ∷ fault.place.column ∷ rank_of fault.kind ∷ fault.word

-- by line, then by column, then by kind, then by word
unfoldable pub is_earlier : Fault → Fault → Bool
is_earlier a b = is_lt (slice_cmp nat_cmp (order_of a) (order_of b))

-- the fault that is answered, where these are wrong: none of them comes before it
abbrev pub IsFirst : List Fault → Fault → Type 0
IsFirst faults fault = IsFirstBy is_earlier faults fault
