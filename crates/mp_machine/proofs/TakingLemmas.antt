-- Who may send a message, and which message bytes are.
use Rattle.std.proofs.Common.{◌≡◌, ℕ, ◌<◌, ◌^◌, List, Option, Some, None, refl, sym, ap, subst}
use Rattle.std.specs.Prelude.{Err}
use Rattle.std.specs.Option.{option_map_or}
use Rattle.mp_sets.specs.Numbers.{Numbers}
use Rattle.mp_task.specs.AgentTask.{AgentTask}
use Rattle.mp_messages.specs.declared.message.Message.{Message}
use Rattle.mp_messages.specs.declared.message.Message.TheVariants as kinds
use Rattle.mp_messages.specs.declared.message.State.{State}
use Rattle.mp_messages.specs.Spelling.{IsSpelling}
use Rattle.mp_search.specs.Spelled.{message_of}
use Rattle.mp_search.proofs.Spelled.{message_is_spelled, spelled_is_message}
use Rattle.mp_machine.specs.declared.member.Member.{Member}
use Rattle.mp_machine.specs.declared.refusal.BadKind.TheVariants.{NotASpelling}
use Rattle.mp_machine.specs.AgentRecord.{AgentRecord}
use Rattle.mp_machine.specs.MemberFields.{IsMember}
use Rattle.mp_machine.specs.Taking.{took, took_message, took_state}

module _ (value : Numbers → Numbers → Option ℕ) (r : AgentRecord) (from : ℕ) (bytes : List ℕ) where
  pub took_spelled : (m : Message) → r.task.publics < 2 ^ 32 → IsSpelling r.task.agents r.task.publics m bytes
      → took_message value r from m ≡ took value r from bytes
  unfolding took
  took_spelled m small spelled =
      ap (λ (o : Option Message). option_map_or (took_message value r from) o (Err NotASpelling))
      (sym (spelled_is_message r.task.agents r.task.publics m bytes small spelled))

  pub took_unspelled : ((m : Message) → IsSpelling r.task.agents r.task.publics m bytes → ⊥)
      → took value r from bytes ≡ Err NotASpelling
  unfolding took
  took_unspelled nothing = by (message_of r.task.agents r.task.publics bytes) refl
    where
      by : (o : Option Message) → message_of r.task.agents r.task.publics bytes ≡ o
          → option_map_or (took_message value r from) o (Err NotASpelling) ≡ Err NotASpelling
      by None is = refl
      by (Some m) is = absurd (nothing m (message_is_spelled r.task.agents r.task.publics bytes m is))

-- the member's team is the task's
module _ (t : AgentTask) (m : Member) (of : IsMember t m) (message : Message) (bytes : List ℕ) where
  pub spelled_for : IsSpelling m.agents m.publics message bytes → IsSpelling t.agents t.publics message bytes
  spelled_for spelled =
      subst (λ (n : ℕ). IsSpelling n t.publics message bytes) of.agents
      (subst (λ (n : ℕ). IsSpelling m.agents n message bytes) of.publics spelled)

  pub spelled_by : IsSpelling t.agents t.publics message bytes → IsSpelling m.agents m.publics message bytes
  spelled_by spelled =
      subst (λ (n : ℕ). IsSpelling n m.publics message bytes) (sym of.agents)
      (subst (λ (n : ℕ). IsSpelling t.agents n message bytes) (sym of.publics) spelled)

module _ (value : Numbers → Numbers → Option ℕ) (r : AgentRecord) (from : ℕ) (bytes : List ℕ) (m : State)
    (is : message_of r.task.agents r.task.publics bytes ≡ Some (kinds.State m)) where
  -- a state that bytes spell is taken as they are
  pub took_read : took_state value r from m ≡ took value r from bytes
  unfolding took
  took_read = ap (λ (o : Option Message). option_map_or (took_message value r from) o (Err NotASpelling)) (sym is)
