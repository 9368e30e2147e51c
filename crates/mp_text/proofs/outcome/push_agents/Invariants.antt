use Rattle.std.proofs.Common.{◌≡◌, ◌++◌, drop}
use Rattle.mp_text.specs.Lines.{text_of_lines}
use Rattle.mp_text.specs.Outcome.{agent_lines}
use Rattle.mp_text.proofs.outcome.push_agents.Given as goal

-- the text so far and the lines of the agents that are left make the whole
abbrev pub invariant-loop-place : goal.invariant-loop-place
invariant-loop-place l =
    l.text ++ text_of_lines (agent_lines l.names l.place (drop l.place l.shares))
    ≡ l.fn.text ++ text_of_lines (agent_lines l.names 0 l.shares)
