-- What `==` answers, by the name of the type.
use Rattle.std.specs.Prelude.{Bool}
use Rattle.mp_messages.specs.declared.message.EndKind.{EndKind}
use Rattle.mp_messages.specs.declared.message.Findings.{Findings}
use Rattle.mp_messages.specs.declared.message.State.{State}
use Rattle.mp_messages.specs.declared.message.Message.{Message}
use Rattle.mp_messages.specs.declared.history.Kind.{Kind}
use Rattle.mp_messages.specs.declared.history.Event.{Event}
use Rattle.mp_messages.specs.declared.history.Entry.{Entry}
use Rattle.mp_messages.specs.contracts.message.EndKindPartialEq.TheImpl as end_kinds
use Rattle.mp_messages.specs.contracts.message.FindingsPartialEq.TheImpl as all_findings
use Rattle.mp_messages.specs.contracts.message.StatePartialEq.TheImpl as states
use Rattle.mp_messages.specs.contracts.message.MessagePartialEq.TheImpl as messages
use Rattle.mp_messages.specs.contracts.history.KindPartialEq.TheImpl as kinds
use Rattle.mp_messages.specs.contracts.history.EventPartialEq.TheImpl as events
use Rattle.mp_messages.specs.contracts.history.EntryPartialEq.TheImpl as entries

abbrev pub end_kind_eq : EndKind → EndKind → Bool
end_kind_eq = end_kinds.ghosts.eq

abbrev pub findings_eq : Findings → Findings → Bool
findings_eq = all_findings.ghosts.eq

abbrev pub state_eq : State → State → Bool
state_eq = states.ghosts.eq

abbrev pub message_eq : Message → Message → Bool
message_eq = messages.ghosts.eq

abbrev pub kind_eq : Kind → Kind → Bool
kind_eq = kinds.ghosts.eq

abbrev pub event_eq : Event → Event → Bool
event_eq = events.ghosts.eq

abbrev pub entry_eq : Entry → Entry → Bool
entry_eq = entries.ghosts.eq
