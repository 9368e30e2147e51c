-- A machine: an agent that takes steps until one is refused for good.
use Rattle.std.specs.Prelude.{◌≡◌, ℕ, Bool, true, false, List, [], map, Option, Some, None, IfSome}
use Rattle.std.specs.Prelude.{Result, Ok, Err, if◌then◌else◌}
use Rattle.std.specs.Option.{option_map_or}
use Rattle.mp_sets.specs.Numbers.{Numbers}
use Rattle.mp_machine.specs.declared.event.Local.{Local}
use Rattle.mp_machine.specs.declared.outgoing.Out.{Out}
use Rattle.mp_machine.specs.declared.refusal.BadKind.{BadKind}
use Rattle.mp_machine.specs.declared.refusal.StepRefusal.{StepRefusal}
use Rattle.mp_machine.specs.declared.refusal.StepRefusal.TheVariants.{NotNow, Bad, OutOfMemory}
use Rattle.mp_machine.specs.AgentRecord.{AgentRecord}
use Rattle.mp_machine.specs.LocalStep.{local, may}
use Rattle.mp_machine.specs.Outgoing.{Step, in_bytes}

pub record AgentMachine : Type 0 where
  pub done : AgentRecord
  -- what it refuses every step with, once a message was bad or memory ran out
  pub stopped : Option StepRefusal

-- a step was taken, or a bad message stops the machine
abbrev pub stepped :
    AgentRecord → Result Step BadKind → Result (List Out) StepRefusal × AgentMachine
stepped r (Ok s) = (Ok (map in_bytes s.out), record { done = s.after; stopped = None })
stepped r (Err kind) = (Err (Bad kind), record { done = r; stopped = Some (Bad kind) })

-- What a machine answers and what it is then, with memory enough.
abbrev pub answered :
    (Numbers → Numbers → Option ℕ) → AgentMachine → Local → List ℕ
    → Result (List Out) StepRefusal × AgentMachine
answered value m event bytes =
    option_map_or (λ refusal. (Err refusal, m)) m.stopped
    (if may m.done event then stepped m.done (local value m.done event bytes) else (Err NotNow, m))

-- whether memory ran out
abbrev pub lacks_memory : {A : Type 0} → Result A StepRefusal → Bool
lacks_memory (Ok x) = false
lacks_memory (Err NotNow) = false
lacks_memory (Err (Bad kind)) = false
lacks_memory (Err OutOfMemory) = true

-- the bytes that are given, if they are
abbrev pub given : Option (List ℕ) → List ℕ
given None = []
given (Some bytes) = bytes

-- What a step answers, and what the machine is then. For want of memory alone the answer is
-- another one than the definition's.
pub record IsStep
    (value : Numbers → Numbers → Option ℕ)
    (old : AgentMachine)
    (event : Local)
    (bytes : List ℕ)
    (answer : Result (List Out) StepRefusal)
    (new : AgentMachine)
    : Type 0 where
  pub task : new.done.task ≡ old.done.task
  pub limit : new.done.limit ≡ old.done.limit
  pub again : IfSome old.stopped (λ refusal. answer ≡ Err refusal)
  pub not_now : old.stopped ≡ None → may old.done event ≡ false → answer ≡ Err NotNow
  pub stopped : lacks_memory answer ≡ true → new.stopped ≡ Some OutOfMemory
  pub by_definition : lacks_memory answer ≡ false → (answer, new) ≡ answered value old event bytes
