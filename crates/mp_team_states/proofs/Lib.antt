-- in reading order: each agent after an event; what grows; a search as changes one after another; what it keeps and sends, by cases;
-- expansions and receipts as such changes
pub mod EachAgent
pub mod Growth
pub mod Changes
pub mod Keeping
pub mod Expanding
pub mod Quiet
pub mod WorldsGrow
pub mod Received
pub mod LocalStates
pub mod StepsSound
pub mod StartSound
pub mod JointStates
pub mod GoodStates
pub mod Entries
pub mod JointSteps
pub mod NewEntries
pub mod ReachedEntries
pub mod StartReached
pub mod RoomLemmas
pub mod RoomCounts
pub mod Messages
pub mod WalkingPaths
-- members of lists; what is kept and sent of a state; own actions one after another; expansions and
-- receipts; what a state says of the joint state that it is; what agents have found; worlds whose states are sound; the
-- promises of a heuristic; the step of an event; what stays reached; what an expanded entry leads to; estimates; worlds
-- that are explored; goal flags; runs; witnesses; what an expansion is worth; what stays expanded; the entries that own
-- actions add; one agent that expands no state twice
pub mod Members
pub mod Kept
pub mod Continuing
pub mod Expanded
pub mod Joint
pub mod Found
pub mod SoundWorlds
pub mod Heuristics
pub mod Stepping
pub mod Staying
pub mod Leading
pub mod Bounds
pub mod Explored
pub mod Flags
pub mod Runs
pub mod Witnesses
pub mod Worth
pub mod StillExpanded
pub mod Adding
pub mod Once
