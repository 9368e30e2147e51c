-- in reading order: what is due; places of agents in notes; snapshots over notes and lists of messages alone; what each kind
-- of step keeps there: states that are counted, a marker of a snapshot that goes on, a marker by which one begins, a report,
-- a start
pub mod Due
pub mod NotePlaces
pub mod Protocol
pub mod Counting
pub mod Marking
pub mod Beginning
pub mod Reporting
pub mod Starting
-- what goes out in a step, that it is read as itself, and what an agent does by each event
pub mod Sendings
pub mod Reading
pub mod Quiet
pub mod Costs
pub mod ReadCosts
pub mod Effects
-- worlds as notes and lists of messages, and what an event changes there
pub mod Worlds
pub mod Changes
pub mod Quietly
pub mod TakingFirst
pub mod TakenMarker
pub mod TakenReport
pub mod Started
-- the start and each event keep it; what follows; ends; that numbers have room, so that it is so in all runs
pub mod Kept
pub mod NotStrange
pub mod Over
pub mod Consequences
pub mod EndsSent
pub mod Ends
pub mod Room
pub mod InRuns
pub mod Agreeing
-- the messages between two agents, after a schedule and after its cut; the least of costs where one more comes
pub mod CutMail
pub mod Leasts
-- a schedule and its cut side by side, over notes and messages alone: what an event of an agent does that has recorded, that has
-- not, and that records by it
pub mod Both
pub mod Skipping
pub mod Doing
pub mod Recording
-- the cut of a schedule with one event more; what an agent does at an event; how messages are read and how they move
pub mod CutSchedules
pub mod Acting
pub mod Readings
pub mod Lasts
pub mod Moving
pub mod Taken
-- the same three kinds of events in worlds, and the agents after them
pub mod Skipped
pub mod Recorded
pub mod Done
pub mod Since
-- all legal schedules; messages by records of agents; the rule of verdicts; verdicts; the laws for any tasks that agree
pub mod CutRuns
pub mod MessagesCut
pub mod Unnumbered
pub mod CutVerdicts
pub mod Teams
