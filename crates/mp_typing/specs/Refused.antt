-- Why a factor is refused.
use Rattle.std.specs.Prelude.{List}
use Rattle.mp_typing.specs.declared.fault.Fault.{Fault}
use Rattle.mp_typing.specs.declared.fault.FaultKind.{FaultKind}
use Rattle.mp_typing.specs.declared.fault.FaultKind.TheVariants as kinds
use Rattle.mp_typing.specs.declared.refusal.Found.{Found}
use Rattle.mp_typing.specs.declared.refusal.CheckRefusal.{CheckRefusal}
use Rattle.mp_typing.specs.declared.refusal.CheckRefusal.TheVariants.{WrongDomain, UnknownName, Arity, Twice, OutOfMemory}
use Rattle.mp_typing.specs.Faults.{IsFirst}

-- a fault of this kind at this word
abbrev pub fault_of : FaultKind → Found → Fault
fault_of kind found = record { kind = kind; found = found }

-- the refusal of a fault of this kind
abbrev pub refusal_by : FaultKind → Found → CheckRefusal
refusal_by kinds.WrongDomain found = WrongDomain found
refusal_by kinds.Unknown found = UnknownName found
refusal_by kinds.Arity found = Arity found
refusal_by kinds.Twice found = Twice found

-- the refusal that says a fault
abbrev pub refusal_of : Fault → CheckRefusal
refusal_of fault = refusal_by fault.kind fault.found

-- a refusal is the first of these faults; want of memory may come at any time
abbrev pub RestsOn : List Fault → CheckRefusal → Type 0
RestsOn faults (WrongDomain found) = IsFirst faults (fault_of kinds.WrongDomain found)
RestsOn faults (UnknownName found) = IsFirst faults (fault_of kinds.Unknown found)
RestsOn faults (Arity found) = IsFirst faults (fault_of kinds.Arity found)
RestsOn faults (Twice found) = IsFirst faults (fault_of kinds.Twice found)
RestsOn faults OutOfMemory = Unit {0}
