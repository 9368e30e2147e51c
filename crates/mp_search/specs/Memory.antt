-- Answers of calls that take memory.
use Rattle.std.specs.Prelude.{Bool, true, false, Result, Ok, Err}
use Rattle.mp_search.specs.declared.answer.ExpandRefusal.{ExpandRefusal}
use Rattle.mp_search.specs.declared.answer.ExpandRefusal.TheVariants as expand
use Rattle.mp_search.specs.declared.answer.ReceiveRefusal.{ReceiveRefusal}
use Rattle.mp_search.specs.declared.answer.ReceiveRefusal.TheVariants as receive

-- whether memory ran out in an expansion
abbrev pub lacks_memory : {A : Type 0} → Result A ExpandRefusal → Bool
lacks_memory (Ok x) = false
lacks_memory (Err expand.AtLimit) = false
lacks_memory (Err expand.Nothing) = false
lacks_memory (Err expand.OutOfMemory) = true

-- the same for a receipt
abbrev pub lacks_memory_for : {A : Type 0} → Result A ReceiveRefusal → Bool
lacks_memory_for (Ok x) = false
lacks_memory_for (Err receive.UnknownToken) = false
lacks_memory_for (Err receive.WrongByte) = false
lacks_memory_for (Err receive.OutOfMemory) = true
