-- Faults of a factor, and the first of them.
use Rattle.std.specs.Prelude.{ℕ, Bool, List, [], ◌∷◌, ◌++◌, Option}
use Rattle.std.specs.Ordering.{is_lt, nat_cmp}
use Rattle.std.specs.Cmp.Lexicographic.{slice_cmp}
use Rattle.mp_list.specs.First.{IsFirst as IsFirstBy, leftmost as first_of}
use Rattle.mp_forms.specs.declared.files.File.{File}
use Rattle.mp_sexp.specs.declared.tree.Place.{Place}
use Rattle.mp_forms.specs.declared.files.File.TheVariants.{Domain, Problem}
use Rattle.mp_forms.specs.declared.word.Word.{Word}
use Rattle.mp_typing.specs.declared.fault.Fault.{Fault}
use Rattle.mp_typing.specs.declared.fault.FaultKind.{FaultKind}
use Rattle.mp_typing.specs.declared.fault.FaultKind.TheVariants.{WrongDomain, Unknown, Arity, Twice}

-- a fault of this kind at a word of a file
abbrev pub fault_at : FaultKind → File → Word → Fault
fault_at kind file word = record { kind = kind; found = record { file = file; at = word.at; name = word.name } }

-- a wrong domain comes before all else
abbrev pub stage_of : FaultKind → ℕ
stage_of WrongDomain = 0
stage_of Unknown = 1
stage_of Arity = 1
stage_of Twice = 1

-- the domain is read before the problem
abbrev pub file_rank_of : File → ℕ
file_rank_of Domain = 0
file_rank_of Problem = 1

-- which fault at one place is answered
abbrev pub rank_of : FaultKind → ℕ
rank_of WrongDomain = 0
rank_of Unknown = 1
rank_of Arity = 2
rank_of Twice = 3

-- what faults are compared by, the first number first
abbrev pub order_by : FaultKind → File → Place → List ℕ
order_by kind file at = stage_of kind ∷ file_rank_of file ∷ at.line ∷ at.column ∷ rank_of kind ∷ []

-- and by the name at last, which one place of a file that was read has one of alone
abbrev pub order_of : Fault → List ℕ
order_of fault = order_by fault.kind fault.found.file fault.found.at ++ fault.found.name

-- a fault comes before another
unfoldable pub is_earlier : Fault → Fault → Bool
is_earlier a b = is_lt (slice_cmp nat_cmp (order_of a) (order_of b))

-- the fault that is answered, where these are wrong: none of them comes before it
abbrev pub IsFirst : List Fault → Fault → Type 0
IsFirst faults fault = IsFirstBy is_earlier faults fault

-- the earliest of a known fault and these, the known one where none is earlier
abbrev pub leftmost : Option Fault → List Fault → Option Fault
leftmost known faults = first_of is_earlier known faults
