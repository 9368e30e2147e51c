-- What a refusal says of a tree that is no domain or problem.
use Rattle.std.specs.Prelude.{◌≡◌, ◌⊎◌}
use Rattle.mp_forms.specs.declared.fault.Fault.{Fault}
use Rattle.mp_forms.specs.declared.fault.FaultKind.TheVariants as kinds
use Rattle.mp_factor.specs.declared.refusal.ShapeRefusal.{ShapeRefusal}
use Rattle.mp_factor.specs.declared.refusal.ShapeRefusal.TheVariants.{Shape, Unsupported, Parameters, Cost, OutOfMemory}
use Rattle.mp_forms.specs.Faults.{IsFirst}
use Rattle.mp_forms.specs.Reading.{Reading, faults_in}

-- this refusal tells this fault; want of memory may always be told
abbrev pub Says : Fault → ShapeRefusal → Type 0
Says fault (Shape place) = (fault.place ≡ place) × (fault.kind ≡ kinds.Shape)
Says fault (Unsupported name place) =
    (fault.place ≡ place) × (fault.kind ≡ kinds.Unsupported) × (fault.word ≡ name)
Says fault (Parameters place) = (fault.place ≡ place) × (fault.kind ≡ kinds.Parameters)
Says fault (Cost place) = (fault.place ≡ place) × (fault.kind ≡ kinds.Cost)
Says fault OutOfMemory = Unit {0}

abbrev pub IsMemory : ShapeRefusal → Type 0
IsMemory (Shape place) = ⊥
IsMemory (Unsupported name place) = ⊥
IsMemory (Parameters place) = ⊥
IsMemory (Cost place) = ⊥
IsMemory OutOfMemory = Unit {0}

-- the refusal tells the first of all that is wrong by this reading, or memory ran out
abbrev pub Refuses : {X : Type 0} → Reading X → ShapeRefusal → Type 0
Refuses reading refusal =
    IsMemory refusal ⊎ ((fault : Fault) × IsFirst (faults_in reading) fault × Says fault refusal)
