-- What is seen of a source in a call, and what a refusal rests on.
use Rattle.std.specs.Prelude.{◌≡◌, ◌<◌, ◌⊎◌, ℕ, List, Option, Some, IfSome, IsSomeAnd, slice_get}
use Rattle.mp_joint.specs.Fact.{Text}
use Rattle.mp_forms.specs.declared.files.File.{File}
use Rattle.mp_forms.specs.declared.files.File.TheVariants as file
use Rattle.mp_outside.specs.Source.{Files, FaultAt}
use Rattle.mp_files.specs.File.{IsFitting}
use Rattle.mp_files.specs.Team.{IsFirst, Two}
use Rattle.mp_files.specs.declared.refusal.FileOf.{FileOf}
use Rattle.mp_files.specs.declared.refusal.Refusal.{Refusal}
use Rattle.mp_files.specs.declared.refusal.Refusal.TheVariants as why

-- what a source holds, where it tells, how many faults it had before the call and has now, and at which name the last
-- one came, where it tells
pub record SeenSource : Type 0 where
  pub held : Option Files
  pub before : ℕ
  pub now : ℕ
  pub fault_at : Option Text

abbrev pub seen_source : {S : Type 0} → (S → Option Files) → (S → ℕ) → (S → Option Text) → S → S → SeenSource
seen_source held faults fault_at old new =
    record { held = held old; before = faults old; now = faults new; fault_at = fault_at new }

-- the name of a file
abbrev pub name_in : Two → File → Text
name_in names file.Domain = names.domain
name_in names file.Problem = names.problem

-- the domain's file fits, where the problem's is looked for
abbrev pub IsFittingBefore : Files → Two → File → Type 0
IsFittingBefore files names file.Domain = Unit {0}
IsFittingBefore files names file.Problem = IsFitting files names.domain

-- the files of the agents before an agent fit
abbrev pub AreFittingBefore : Files → List Two → ℕ → Type 0
AreFittingBefore files names agent =
    (before : ℕ) (other : Two)
    → before < agent → slice_get names before ≡ Some other
    → IsFitting files other.domain × IsFitting files other.problem

-- Reading a file had a fault: the count rose, and where the source tells, the last fault came at this file, and
-- the files before it were found and fit.
pub record HadFault (source : SeenSource) (names : List Two) (own : Two) (at : FileOf) : Type 0 where
  pub count : source.before < source.now
  pub place : FaultAt source.held source.fault_at (Some (name_in own at.file))
  pub others : IfSome source.held (λ files. AreFittingBefore files names at.agent × IsFittingBefore files own at.file)

-- A file of the names cannot be read: the source tells that it is not there, and that is the first refusal, or
-- there was a fault.
pub record CannotRead (source : SeenSource) (names : List Two) (at : FileOf) : Type 0 where
  pub own : Two
  pub named : slice_get names at.agent ≡ Some own
  pub because : IsSomeAnd source.held (λ files. IsFirst files names (why.Read at)) ⊎ HadFault source names own at

-- where the source tells, this is the first refusal
abbrev pub ComesFirst : SeenSource → List Two → Refusal → Type 0
ComesFirst source names r = IfSome source.held (λ files. IsFirst files names r)

-- What a refusal rests on: on being the first one, where the source tells, but for faults of reading and want
-- of memory.
abbrev pub Rests : SeenSource → List Two → Refusal → Type 0
Rests source names (why.Read at) = CannotRead source names at
Rests source names (why.TooLarge at) = ComesFirst source names (why.TooLarge at)
Rests source names (why.Fault at kind place) = ComesFirst source names (why.Fault at kind place)
Rests source names why.OutOfMemory = Unit {0}

-- a refusal for a file that cannot be read
abbrev pub IsOfReading : Refusal → Type 0
IsOfReading (why.Read at) = Unit {0}
IsOfReading (why.TooLarge at) = ⊥
IsOfReading (why.Fault at kind place) = ⊥
IsOfReading why.OutOfMemory = ⊥
