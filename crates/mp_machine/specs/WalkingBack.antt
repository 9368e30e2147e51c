-- How the plan is walked back over the agents (MAD-A*, Nissim and Brafman 2014).
use Rattle.std.specs.Prelude.{ℕ, ◌++◌}
use Rattle.std.specs.Option.{option_map_or}
use Rattle.mp_messages.specs.declared.message.Message.TheVariants.{Trace, Length}
use Rattle.mp_trail.specs.declared.steps.Walked.{Walked}
use Rattle.mp_trail.specs.declared.steps.Walked.TheVariants.{Root, Hop}
use Rattle.mp_trail.specs.Share.{share}
use Rattle.mp_trail.specs.Walk.{walk}
use Rattle.mp_machine.specs.declared.event.Ending.TheVariants.{Solved}
use Rattle.mp_machine.specs.AgentRecord.{AgentRecord}
use Rattle.mp_machine.specs.Outgoing.{Step, without_messages, to_one, to_others}

-- The plan has a length, so that the agent knows its share of it, and ends.
abbrev pub solved : AgentRecord → ℕ → AgentRecord
solved r length = record r { ending = Solved length; share = share length r.trail }

-- At the initial state the plan's length is known: all others are told, and the agent ends. At a
-- state that another agent sent, that one is to go on.
abbrev pub arrived : AgentRecord → Walked → Step
arrived r (Root length) = record {
  out = to_others r.task (Length length);
  after = solved r length;
}
arrived r (Hop agent sent back) = record { out = to_one agent (Trace sent back); after = r }

-- The agent walks back from an entry that so many actions of the plan come after, and notes its
-- own actions.
unfoldable pub walked : AgentRecord → ℕ → ℕ → Step
walked r entry back =
    arrived (record r { trail = r.trail ++ (walk r.search.kept entry back).noted })
    (walk r.search.kept entry back).end

-- the walk begins at the goal entry that the agent noted
abbrev pub walked_from_goal : AgentRecord → Step
walked_from_goal r = option_map_or (λ entry. walked r entry 0) r.goal (without_messages r)
