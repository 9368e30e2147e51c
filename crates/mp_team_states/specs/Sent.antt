-- Messages of the states that an agent sent.
use Rattle.std.specs.Prelude.{◌≡◌, ℕ, slice_get, Some}
use Rattle.mp_task.specs.AgentTask.{AgentTask}
use Rattle.mp_messages.specs.declared.message.State.{State}
use Rattle.mp_store.specs.declared.entry.Entry.{Entry}
use Rattle.mp_store.specs.Record.{Record}
use Rattle.mp_store.specs.Sent.{sent_entry}
use Rattle.mp_search.specs.AgentState.{AgentState}
use Rattle.mp_search.specs.Sending.{message_of_entry}

-- A message tells of a state that was sent: it is that of the entry of its sent number.
pub record IsSentIn (t : AgentTask) (r : Record AgentState) (m : State) : Type 0 where
  pub number : ℕ
  pub entry : Entry AgentState
  pub sent : sent_entry m.sent r ≡ Some number
  pub there : slice_get r.entries number ≡ Some entry
  pub is : m ≡ message_of_entry t r m.sent entry
