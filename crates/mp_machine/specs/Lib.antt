-- what one agent has done so far
pub mod AgentRecord
-- what a verdict says
pub mod Verdicts
-- what goes out in a step
pub mod Outgoing
-- how the plan is walked back
pub mod WalkingBack
-- an agent's part in snapshots
pub mod Snapshots
-- what an agent does with a message
pub mod Taking
-- what may happen at an agent, and what it leads to
pub mod LocalStep
-- what a machine answers
pub mod Machine
-- a machine of the program as contracts see it
pub mod MemberFields
-- the fields of a machine
pub mod MachineFields
