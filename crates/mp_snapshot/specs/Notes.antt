-- What one agent keeps of the last snapshot (Chandy and Lamport 1985).
use Rattle.std.specs.Prelude.{ℕ, Bool, List}
use Rattle.mp_messages.specs.declared.message.Findings.{Findings}

-- Lists have one place for each of the 16 agents that there may be, agent 1 first.
pub record Notes : Type 0 where
  -- the agent itself, and how many agents the team has
  pub me : ℕ
  pub agents : ℕ
  -- the number of the last snapshot that began here, and 0 before the first
  pub number : ℕ
  -- the agents whose marker of it has come, and the agent itself
  pub marked : List Bool
  -- the agents whose findings are here, and the agent itself
  pub reported : List Bool
  -- their findings: its own as they were when the snapshot began here, with the least f of the states that were
  -- counted under way since
  pub found : List Findings
