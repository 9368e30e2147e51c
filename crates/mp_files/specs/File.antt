-- What a file leads to: its text, where it is there and not too long; what its text says, where that is well
-- formed; and the factor of two files, where nothing is wrong with its names.
use Rattle.std.specs.Prelude.{◌≡◌, ◌<◌, ◌≤◌, ℕ, [], length, Option, Some, None, Ok, Err, IsSomeAnd}
use Rattle.mp_forms.specs.Faults.{IsFirst as IsFirstOf}
use Rattle.mp_forms.specs.Reading.{Reading as ShapeReading, Says as ShapeSays, faults_in}
use Rattle.mp_forms.specs.Rules.Files.{domain_rule, problem_rule}
use Rattle.mp_forms.specs.declared.fault.Fault.{Fault as ShapeFault}
use Rattle.mp_forms.specs.declared.fault.FaultKind.{FaultKind}
use Rattle.mp_forms.specs.declared.fault.FaultKind.TheVariants as shape
use Rattle.mp_forms.specs.FactorParts.{DomainParts, ProblemParts}
use Rattle.mp_forms.specs.declared.factor.Factor.{Factor}
use Rattle.mp_factor.specs.declared.refusal.ShapeRefusal.{ShapeRefusal}
use Rattle.mp_factor.specs.declared.refusal.ShapeRefusal.TheVariants as shapes
use Rattle.mp_forms.specs.declared.files.File.{File}
use Rattle.mp_joint.specs.Fact.{Text}
use Rattle.mp_outside.specs.Source.{Files}
use Rattle.mp_sexp.specs.Fault.{ReadFault}
use Rattle.mp_sexp.specs.Node.{Node}
use Rattle.mp_sexp.specs.Spelling.{HasTree}
use Rattle.mp_sexp.specs.declared.refusal.ReadRefusal.{ReadRefusal}
use Rattle.mp_sexp.specs.declared.refusal.ReadRefusal.TheVariants as text
use Rattle.mp_typing.specs.CheckFaults.{check_faults}
use Rattle.mp_typing.specs.Faults.{IsFirst as IsFirstCheck}
use Rattle.mp_typing.specs.declared.fault.Fault.{Fault as CheckFault}
use Rattle.mp_typing.specs.declared.fault.FaultKind.{FaultKind as CheckKind}
use Rattle.mp_typing.specs.declared.fault.FaultKind.TheVariants as checks
use Rattle.mp_typing.specs.declared.refusal.CheckRefusal.{CheckRefusal}
use Rattle.mp_typing.specs.declared.refusal.CheckRefusal.TheVariants as refused
use Rattle.mp_typing.specs.declared.refusal.Found.{Found}
use Rattle.mp_files.specs.Reading.{Reading, Then}
use Rattle.mp_files.specs.declared.refusal.FileOf.{FileOf}
use Rattle.mp_files.specs.declared.refusal.Fault.{Fault}
use Rattle.mp_files.specs.declared.refusal.Fault.TheVariants as fault
use Rattle.mp_files.specs.declared.refusal.Refusal.{Refusal}
use Rattle.mp_files.specs.declared.refusal.Refusal.TheVariants as why

-- the greatest number of bytes of a factor file
abbrev pub longest_file : ℕ
longest_file = 4194304

-- there is a file of this name, and it is not longer than a factor file may be
abbrev pub IsFitting : Files → Text → Type 0
IsFitting files name = IsSomeAnd (files name) (λ t. length t ≤ longest_file)

-- what is longer than a factor file may be
abbrev pub IsLong : Option Text → Type 0
IsLong found = IsSomeAnd found (λ t. longest_file < length t)

-- what is found under a file's name leads to its text
abbrev pub Fetches : Option Text → FileOf → Reading Text
Fetches found at (Ok text) = (found ≡ Some text) × (length text ≤ longest_file)
Fetches found at (Err (why.Read other)) = (other ≡ at) × (found ≡ None)
Fetches found at (Err (why.TooLarge other)) = (other ≡ at) × IsLong found
Fetches found at (Err (why.Fault other kind place)) = ⊥
Fetches found at (Err why.OutOfMemory) = ⊥

-- what the reader's refusal of a file's text is here
abbrev pub text_refusal : FileOf → ReadRefusal → Refusal
text_refusal at (text.Char place) = why.Fault at fault.Char place
text_refusal at (text.Unbalanced place) = why.Fault at fault.Unbalanced place
text_refusal at (text.Trailing place) = why.Fault at fault.Trailing place
text_refusal at (text.Deep place) = why.Fault at fault.Deep place
text_refusal at text.OutOfMemory = why.OutOfMemory

-- a text leads to its tree
abbrev pub Spells : FileOf → Text → Reading Node
Spells at text (Ok node) = HasTree text node
Spells at text (Err r) = (first : ReadRefusal) × ReadFault text first × (r ≡ text_refusal at first)

-- what a fault of the shape of a file's tree is here, by its word and kind
abbrev pub shape_fault : Text → FaultKind → Fault
shape_fault word shape.Shape = fault.Shape
shape_fault word shape.Unsupported = fault.Unsupported word
shape_fault word shape.Parameters = fault.Parameters
shape_fault word shape.Cost = fault.Cost

abbrev pub shape_refusal : FileOf → ShapeFault → Refusal
shape_refusal at first = why.Fault at (shape_fault first.word first.kind) first.place

-- what the refusal of a file's tree for its shape is here
abbrev pub told_shape : FileOf → ShapeRefusal → Refusal
told_shape at (shapes.Shape place) = why.Fault at fault.Shape place
told_shape at (shapes.Unsupported word place) = why.Fault at (fault.Unsupported word) place
told_shape at (shapes.Parameters place) = why.Fault at fault.Parameters place
told_shape at (shapes.Cost place) = why.Fault at fault.Cost place
told_shape at shapes.OutOfMemory = why.OutOfMemory

-- a tree leads to what it says, where nothing is wrong with its shape
abbrev pub HasShape : {X : Type 0} → FileOf → ShapeReading X → Reading X
HasShape at read (Ok said) = read ≡ ShapeSays said
HasShape at read (Err r) =
    (first : ShapeFault) × IsFirstOf (faults_in read) first × (r ≡ shape_refusal at first)

-- a text leads to the domain that it says
abbrev pub SaysDomain : FileOf → Text → Reading DomainParts
SaysDomain at text = Then (Spells at text) (λ node. HasShape at (domain_rule node))

-- and to the problem
abbrev pub SaysProblem : FileOf → Text → Reading ProblemParts
SaysProblem at text = Then (Spells at text) (λ node. HasShape at (problem_rule node))

-- what a fault that the checks find is here, by its kind
abbrev pub check_fault : Text → CheckKind → Fault
check_fault word checks.WrongDomain = fault.WrongDomain word
check_fault word checks.Unknown = fault.Unknown word
check_fault word checks.Arity = fault.Arity word
check_fault word checks.Twice = fault.Twice word

-- a file of an agent
abbrev pub file_of : ℕ → File → FileOf
file_of agent which = record { agent = agent; file = which }

abbrev pub check_refusal : ℕ → CheckFault → Refusal
check_refusal agent first =
    why.Fault (file_of agent first.found.file) (check_fault first.found.name first.kind) first.found.at

abbrev pub found_refusal : ℕ → CheckKind → Found → Refusal
found_refusal agent kind found = why.Fault (file_of agent found.file) (check_fault found.name kind) found.at

-- what the refusal of the checks is here
abbrev pub told_check : ℕ → CheckRefusal → Refusal
told_check agent (refused.WrongDomain found) = found_refusal agent checks.WrongDomain found
told_check agent (refused.UnknownName found) = found_refusal agent checks.Unknown found
told_check agent (refused.Arity found) = found_refusal agent checks.Arity found
told_check agent (refused.Twice found) = found_refusal agent checks.Twice found
told_check agent refused.OutOfMemory = why.OutOfMemory

-- a domain and a problem
pub record Parts : Type 0 where
  pub domain : DomainParts
  pub problem : ProblemParts

-- those of an agent in which nothing is wrong lead to its factor
abbrev pub Checks : ℕ → Parts → Reading Factor
Checks agent parts (Ok factor) =
    (factor ≡ record { domain = parts.domain; problem = parts.problem })
    × (check_faults parts.domain parts.problem ≡ [])
Checks agent parts (Err r) =
    (first : CheckFault) × IsFirstCheck (check_faults parts.domain parts.problem) first
    × (r ≡ check_refusal agent first)
