-- Why a call ends without an outcome: its status, and the line that says so.
use Rattle.std.specs.Prelude.{ℕ, List, [], ◌∷◌, ◌++◌, codes, decimal, slice_get, unwrap_or}
use Rattle.std.specs.Option.{option_map_or}
use Rattle.mp_joint.specs.Fact.{Text}
use Rattle.mp_sexp.specs.declared.tree.Place.{Place}
use Rattle.mp_files.specs.Cause.{name_in}
use Rattle.mp_files.specs.Team.{Two}
use Rattle.mp_files.specs.declared.refusal.Fault.{Fault}
use Rattle.mp_files.specs.declared.refusal.Fault.TheVariants as fault
use Rattle.mp_files.specs.declared.refusal.FileOf.{FileOf}
use Rattle.mp_files.specs.declared.refusal.Refusal.{Refusal as FilesRefusal}
use Rattle.mp_files.specs.declared.refusal.Refusal.TheVariants as files
use Rattle.mp_grounder.specs.declared.refusal.GroundRefusal.{GroundRefusal}
use Rattle.mp_grounder.specs.declared.refusal.GroundRefusal.TheVariants as sizes
use Rattle.mp_top.specs.declared.refusal.Refusal.{Refusal}
use Rattle.mp_top.specs.declared.refusal.FirstRefusal.{FirstRefusal}
use Rattle.mp_top.specs.declared.refusal.FirstRefusal.TheVariants as first
use Rattle.mp_top.specs.declared.refusal.Refusal.TheVariants.{Files, First, Sizes}
use Rattle.mp_top.specs.declared.status.Status.{Status}
use Rattle.mp_top.specs.declared.status.Status.TheVariants as status

abbrev pub status_of_files : FilesRefusal → Status
status_of_files (files.Read at) = status.Read
status_of_files (files.TooLarge at) = status.TooLarge
status_of_files (files.Fault at kind place) = status.Refused
status_of_files files.OutOfMemory = status.Memory

abbrev pub status_of_sizes : GroundRefusal → Status
status_of_sizes (sizes.TooManyTries agent) = status.TooLarge
status_of_sizes (sizes.TooManyActions agent number) = status.TooLarge
status_of_sizes (sizes.TooManyFacts agent number) = status.TooLarge
status_of_sizes sizes.OutOfMemory = status.Memory

abbrev pub status_of_first : FirstRefusal → Status
status_of_first first.Read = status.Read
status_of_first first.TooLarge = status.TooLarge
status_of_first (first.Line number) = status.Line

abbrev pub status_of : Refusal → Status
status_of (Files r) = status_of_files r
status_of (Sizes r) = status_of_sizes r
status_of (First place r) = status_of_first r

-- the word of the command line that names a file
abbrev pub name_of : List Two → FileOf → Text
name_of agents at = option_map_or (λ own. name_in own at.file) (slice_get agents at.agent) []

-- the code and name of a fault
abbrev pub text_of_fault : Fault → Text
text_of_fault fault.Char = codes "F1 char"
text_of_fault fault.Unbalanced = codes "F2 unbalanced"
text_of_fault fault.Trailing = codes "F3 trailing"
text_of_fault fault.Deep = codes "F11 deep"
text_of_fault fault.Shape = codes "F4 shape"
text_of_fault (fault.Unsupported word) = codes "F5 unsupported "
text_of_fault fault.Parameters = codes "F5 unsupported parameters"
text_of_fault fault.Cost = codes "F9 cost"
text_of_fault (fault.WrongDomain word) = codes "F10 domain "
text_of_fault (fault.Unknown word) = codes "F6 unknown "
text_of_fault (fault.Arity word) = codes "F7 arity "
text_of_fault (fault.Twice word) = codes "F8 twice "

-- the word of the file that a fault names behind that
abbrev pub word_of_fault : Fault → Text
word_of_fault (fault.Unsupported word) = word
word_of_fault (fault.WrongDomain word) = word
word_of_fault (fault.Unknown word) = word
word_of_fault (fault.Arity word) = word
word_of_fault (fault.Twice word) = word
word_of_fault _ = []

-- the lines, each with its line feed
abbrev pub words_line : Text
words_line = codes "maplan: words" ++ 10 ∷ []

abbrev pub read_line : Text → Text
read_line name = codes "maplan: cannot read " ++ (name ++ 10 ∷ [])

abbrev pub too_large_line : Text → Text
too_large_line name = codes "maplan: " ++ (name ++ (codes ": too large" ++ 10 ∷ []))

-- `maplan: NAME:LINE:COLUMN: ` and the fault
abbrev pub fault_line : Text → Fault → Place → Text
fault_line name kind place =
    codes "maplan: " ++ (name ++ (codes ":" ++ (decimal place.line ++ (codes ":"
    ++ (decimal place.column ++ (codes ": " ++ (text_of_fault kind
    ++ (word_of_fault kind ++ 10 ∷ []))))))))

-- `maplan: agent I: ` and what is too large
abbrev pub sizes_line : ℕ → Text → Text
sizes_line agent what = codes "maplan: agent " ++ (decimal agent ++ (codes ": " ++ (what ++ 10 ∷ [])))

-- `maplan: NAME: line N refused`
abbrev pub refused_line : Text → ℕ → Text
refused_line name number =
    codes "maplan: " ++ (name ++ (codes ": line " ++ (decimal number ++ (codes " refused" ++ 10 ∷ []))))

abbrev pub write_line : Text
write_line = codes "maplan: cannot write" ++ 10 ∷ []

abbrev pub memory_line : Text
memory_line = codes "maplan: out of memory" ++ 10 ∷ []

abbrev pub line_of_files : List Two → FilesRefusal → Text
line_of_files agents (files.Read at) = read_line (name_of agents at)
line_of_files agents (files.TooLarge at) = too_large_line (name_of agents at)
line_of_files agents (files.Fault at kind place) = fault_line (name_of agents at) kind place
line_of_files agents files.OutOfMemory = memory_line

abbrev pub line_of_sizes : GroundRefusal → Text
line_of_sizes (sizes.TooManyTries agent) = sizes_line agent (codes "G3 tries")
line_of_sizes (sizes.TooManyActions agent number) = sizes_line agent (codes "G2 actions")
line_of_sizes (sizes.TooManyFacts agent number) = sizes_line agent (codes "G1 facts")
line_of_sizes sizes.OutOfMemory = memory_line

-- a refusal of a first file, which has this name
abbrev pub line_of_first : Text → FirstRefusal → Text
line_of_first name first.Read = read_line name
line_of_first name first.TooLarge = too_large_line name
line_of_first name (first.Line number) = refused_line name number

-- a refusal, by the names of the first files and of the files of the agents
abbrev pub line_of : List Text → List Two → Refusal → Text
line_of names agents (Files r) = line_of_files agents r
line_of names agents (Sizes r) = line_of_sizes r
line_of names agents (First place r) = line_of_first (unwrap_or (slice_get names place) []) r
