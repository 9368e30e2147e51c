-- What the calls of a search answer, and what the search is after them.
use Rattle.std.specs.Prelude.{Option, ◌≡◌, ℕ, true, false, List, Result}
use Rattle.mp_sets.specs.Numbers.{Numbers}
use Rattle.mp_messages.specs.declared.message.State.{State}
use Rattle.mp_search.specs.declared.answer.ExpandRefusal.{ExpandRefusal}
use Rattle.mp_search.specs.declared.answer.Received.{Received}
use Rattle.mp_search.specs.declared.answer.ReceiveRefusal.{ReceiveRefusal}
use Rattle.mp_search.specs.declared.answer.Sending.{Sending}
use Rattle.mp_search.specs.Expansion.{expansion}
use Rattle.mp_search.specs.Memory.{lacks_memory, lacks_memory_for}
use Rattle.mp_search.specs.Receipt.{receipt, receipt_of_bytes}
use Rattle.mp_search.specs.Search.{AgentSearch}

-- A search is to expand: what it answers and what it has done are by the definition, unless memory runs out. From then
-- on, memory is answered to be out.
pub record IsExpansion
    (value : Numbers → Numbers → Option ℕ)
    (old : AgentSearch)
    (answer : Result (List Sending) ExpandRefusal)
    (new : AgentSearch)
    : Type 0 where
  pub task : new.task ≡ old.task
  pub limit : new.limit ≡ old.limit
  pub again : old.failed ≡ true → lacks_memory answer ≡ true
  pub failed : new.failed ≡ lacks_memory answer
  pub by_definition : lacks_memory answer ≡ false
      → (answer, new.done) ≡ expansion old.task value old.limit old.done

-- the same of a state that comes from another agent
pub record IsReceipt
    (value : Numbers → Numbers → Option ℕ)
    (old : AgentSearch)
    (from : ℕ)
    (state : State)
    (answer : Result Received ReceiveRefusal)
    (new : AgentSearch)
    : Type 0 where
  pub task : new.task ≡ old.task
  pub limit : new.limit ≡ old.limit
  pub again : old.failed ≡ true → lacks_memory_for answer ≡ true
  pub failed : new.failed ≡ lacks_memory_for answer
  pub by_definition : lacks_memory_for answer ≡ false
      → (answer, new.done) ≡ receipt old.task value from state old.done

-- the same of bytes from another agent that may spell a state; the sum of its cost and estimate is told
pub record IsReceiptOfBytes
    (value : Numbers → Numbers → Option ℕ)
    (old : AgentSearch)
    (from : ℕ)
    (bytes : List ℕ)
    (answer : Result (Option (Received × ℕ)) ReceiveRefusal)
    (new : AgentSearch)
    : Type 0 where
  pub task : new.task ≡ old.task
  pub limit : new.limit ≡ old.limit
  pub again : old.failed ≡ true → lacks_memory_for answer ≡ true
  pub failed : new.failed ≡ lacks_memory_for answer
  pub by_definition : lacks_memory_for answer ≡ false
      → (answer, new.done) ≡ receipt_of_bytes old.task value from bytes old.done
