-- in reading order: paths are short; entries that no message led to; one entry for each path; both in all runs
pub mod Short
pub mod OwnEntries
pub mod OneEntry
pub mod Few
-- what holds of each agent after an event, and of notes after a state; states are heard of from other agents
pub mod CountedStates
pub mod Heard
-- messages of the end that go out; notes of plans; verdicts that prove a plan; what a step does for the end
pub mod EndMessages
pub mod NotesOfPlans
pub mod Proving
pub mod EndSteps
-- what goes out is read; what an event leaves as it was; goal entries that were noted
pub mod Fitting
pub mod Frames
pub mod Goals
-- how the end of a search comes on: a walk, nothing new, a verdict, messages that are taken
pub mod WalkOn
pub mod Calmly
pub mod Judging
pub mod TakingEnds
pub mod TakenEnds
pub mod Stays
-- reports go to agent 1 alone
pub mod Strays
-- all of it in every world that a legal schedule leads to
pub mod InRuns
-- no message is a bad one, and legal events lead on
pub mod GoodMessages
pub mod Leading
-- marks of goals; goal states; the shares of all agents are the plan
pub mod Flags
pub mod GoalStates
pub mod Sharing
-- stages with a plan; a world is at one stage
pub mod Stages
pub mod OneStage
-- the bytes of messages; a verdict names an agent of the team; other agents, in origins and as receivers;
-- what goes out in an expansion, and in any step; the entries of an agent; no message is a bad one
pub mod Bytes
pub mod Named
pub mod Others
pub mod Expansions
pub mod StepMessages
pub mod AgentEntries
pub mod NoneBad
-- least costs; the rule of verdicts by cases; least entries of a record; what an agent's events do to its count of
-- expansions; states go to other agents; what shows in a world that a cost may be is counted in its verdict; verdicts and answers
pub mod Least
pub mod Cases
pub mod LeastEntries
pub mod Counts
pub mod ToOthers
pub mod Counted
pub mod Verdicts
pub mod Answers
-- an agent that is alone: how many states there are, and that it is spent only where it may expand fewer entries
pub mod FewStates
pub mod Alone
-- where nothing of a snapshot is under way agent 1 has the findings of all; what an event does to the
-- notes of its agent; worlds that are reached; as long as not all agents have ended no world is stuck, and the event that
-- may happen
pub mod Complete
pub mod Noting
pub mod ReachedWorlds
pub mod Stuck
pub mod GoingOn
-- a verdict decides where no agent has anything to expand; worlds in which that is so and no state is under way; worlds that
-- a round goes through; what nine rounds without an expansion lead to
pub mod Decides
pub mod Silence
pub mod Points
pub mod Fresh
pub mod Staying
pub mod Calm
pub mod Progress
pub mod Starting
pub mod Nine
pub mod Undecided
pub mod NineRounds
-- a round of a team that is not over does something
pub mod Doing
-- each snapshot was started by an event
pub mod Numbers
-- each expansion counts as one, so that the search goes on over few rounds
pub mod Counting
pub mod Decided
-- messages of the end that wait; over how many messages a plan is walked back; what an event and a round do for the end; all
-- rounds until the end
pub mod Waiting
pub mod Hops
pub mod Nearing
pub mod Turning
pub mod Nearer
pub mod AllRounds
