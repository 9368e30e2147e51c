-- What an agent of a team has done: what stands of it in a log, what it has not yet signed, and perhaps a last message that it
-- found to be a bad one.
use Rattle.std.specs.Prelude.{◌≡◌, ⊤, ℕ, Bool, true, false, List, [], ◌∷◌, ◌++◌, Option, Some, None, Err, All, Contains, slice_get}
use Rattle.mp_sets.specs.Numbers.{Numbers}
use Rattle.mp_task.specs.AgentTask.{AgentTask}
use Rattle.mp_messages.specs.declared.history.Entry.{Entry}
use Rattle.mp_messages.specs.declared.history.Entry.TheVariants.{Act, Put, Took}
use Rattle.mp_messages.specs.History.{part, under_way}
use Rattle.mp_machine.specs.declared.refusal.BadKind.{BadKind}
use Rattle.mp_machine.specs.declared.event.Local.TheVariants as locals
use Rattle.mp_machine.specs.AgentRecord.{AgentRecord, new_record}
use Rattle.mp_machine.specs.LocalStep.{local, may}
use Rattle.mp_world.specs.Logs.{HasDone}
use Rattle.mp_world.specs.Team.{Team}
use Rattle.mp_world.specs.Values.{Values}
use Rattle.mp_logs.specs.Parts.{IsLogOfParts}

-- an entry takes a message
abbrev pub is_receipt : Entry → Bool
is_receipt (Act agent kind) = false
is_receipt (Put from to bytes) = false
is_receipt (Took by from bytes) = true

-- a message from another agent
pub record Receipt : Type 0 where
  pub from : ℕ
  pub bytes : List ℕ

pub record Served : Type 0 where
  -- what the agent has done, in its order: first what stands in the log, then what does not yet
  pub signed : List Entry
  pub unsigned : List Entry
  -- what it has come to by all of that
  pub last : AgentRecord
  -- the message that it then found to be a bad one
  pub bad : Option Receipt

-- its receipt of the bad message, the last of its entries in the log
abbrev pub bad_receipt : ℕ → Option Receipt → List Entry
bad_receipt agent None = []
bad_receipt agent (Some m) = Took agent m.from m.bytes ∷ []

-- the agent may take that message, and finds it to be a bad one
abbrev pub IsBadFor : (Numbers → Numbers → Option ℕ) → AgentRecord → Option Receipt → Type 0
IsBadFor value r None = ⊤
IsBadFor value r (Some m) =
    (may r (locals.Take m.from) ≡ true)
    × ((kind : BadKind) × (local value r (locals.Take m.from) m.bytes ≡ Err kind))

-- This is what the agent of a task has done, by its part of a log. What it has not signed are acts and messages that it
-- put, since a receipt is signed at once.
pub record HasServed
    (value : Values)
    (limit : ℕ)
    (t : AgentTask)
    (own : List Entry)
    (served : Served)
    : Type 0 where
  pub own_is : own ≡ served.signed ++ bad_receipt t.me served.bad
  pub no_receipts : All (λ e. is_receipt e ≡ false) served.unsigned
  pub done : HasDone (value t) (new_record t (value t) limit) (served.signed ++ served.unsigned) served.last
  pub bad : IsBadFor (value t) served.last served.bad

-- A log of the team with all that its agents have done but the receipts of bad messages: these are still under way.
pub record IsSettled
    (team : Team)
    (served : AgentTask → Served)
    (settled : List Entry)
    : Type 0 where
  pub log : IsLogOfParts team settled (λ t. (served t).last)
  pub parts : (t : AgentTask) → Contains team.tasks t → part settled t.me ≡ (served t).signed ++ (served t).unsigned
  pub next :
      (t : AgentTask) (m : Receipt)
      → Contains team.tasks t
      → (served t).bad ≡ Some m
      → slice_get (under_way m.from t.me settled) 0 ≡ Some m.bytes
