-- the messages that are under way, as messages
pub mod Messages
-- what is so of snapshots in a world that runs
pub mod Snapshots
-- the teams of which the laws speak
pub mod Team
-- the cut of a schedule at a snapshot
pub mod Cut
-- messages between two agents, after a schedule and after its cut
pub mod CutMail
-- what agents have found in one world, and the verdict on it
pub mod Found
-- the world after a schedule beside that after its cut
pub mod CutWorlds
-- the verdict of agent 1 beside the world after the cut
pub mod Verdicts
