-- Logs that differ at most in how entries of different agents stand to each other.
use Rattle.std.specs.Prelude.{◌≡◌, ℕ, List}
use Rattle.mp_messages.specs.declared.history.Entry.{Entry}
use Rattle.mp_messages.specs.History.{part, received, schedule, sent}

-- One schedule, the same part for each agent, and between each two agents the same messages put and taken, in the same
-- order.
pub record AreAlike (log other : List Entry) : Type 0 where
  pub schedules : schedule other ≡ schedule log
  pub parts : (agent : ℕ) → part other agent ≡ part log agent
  pub puts : (from to : ℕ) → sent from to other ≡ sent from to log
  pub receipts : (from to : ℕ) → received from to other ≡ received from to log
