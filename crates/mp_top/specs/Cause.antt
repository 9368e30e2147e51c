-- What a refusal rests on.
use Rattle.std.specs.Prelude.{◌≡◌, ◌<◌, ◌⊎◌, ℕ, slice_get, take, Some, None, IsSomeAnd}
use Rattle.mp_outside.specs.Acts.{FileAsked}
use Rattle.mp_outside.specs.Source.{FaultAt}
use Rattle.mp_files.specs.Cause.{CannotRead, SeenSource}
use Rattle.mp_files.specs.declared.refusal.FileOf.{FileOf}
use Rattle.mp_files.specs.declared.refusal.Refusal.TheVariants as files
use Rattle.mp_grounder.specs.declared.refusal.GroundRefusal.TheVariants as sizes
use Rattle.mp_top.specs.Asked.{TeamRequest, Texts}
use Rattle.mp_top.specs.Asked.Texts.{in_files, made}
use Rattle.mp_top.specs.First.{ComesFirst}
use Rattle.mp_top.specs.FirstText.{HaveTexts}
use Rattle.mp_top.specs.declared.refusal.FirstRefusal.TheVariants as first
use Rattle.mp_top.specs.declared.refusal.Refusal.{Refusal}
use Rattle.mp_top.specs.declared.refusal.Refusal.TheVariants.{Files, First, Sizes}

-- the first file at this place cannot be read: the source tells that it is not there, or a read of it had a fault; and those
-- before it fit
pub record CannotReadFirst (source : SeenSource) (request : TeamRequest) (place : ℕ) : Type 0 where
  pub file : FileAsked
  pub asked : slice_get request.first place ≡ Some file
  pub before : HaveTexts source.held (take place request.first)
  pub because :
      IsSomeAnd source.held (λ files. files file.name ≡ None)
      ⊎ ((source.before < source.now) × FaultAt source.held source.fault_at (Some file.name))

-- a file of an agent cannot be read; what is made is never read
abbrev pub CannotReadTexts : SeenSource → Texts → FileOf → Type 0
CannotReadTexts source (in_files names) at = CannotRead source names at
CannotReadTexts source (made names texts) at = ⊥

-- and the first files fit
pub record CannotReadFactor (source : SeenSource) (request : TeamRequest) (at : FileOf) : Type 0 where
  pub first_texts : HaveTexts source.held request.first
  pub cannot : CannotReadTexts source request.texts at

-- What a refusal of a request rests on: on being the first one, where the source tells, but for faults of reading and want of
-- memory.
abbrev pub Rests : SeenSource → TeamRequest → Refusal → Type 0
Rests source request (Files (files.Read at)) = CannotReadFactor source request at
Rests source request (First place first.Read) = CannotReadFirst source request place
Rests source request (Files files.OutOfMemory) = Unit {0}
Rests source request (Sizes sizes.OutOfMemory) = Unit {0}
Rests source request r = ComesFirst source.held request r
