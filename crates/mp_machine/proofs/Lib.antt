-- messages that are added one after another
pub mod SendingOut
-- the numbers of entries and of what goes out fit messages
pub mod EntriesFit
-- what is read from a store
pub mod StoreSeen
-- what an agent finds fits a message
pub mod FindingLemmas
-- how notes change, and when agent 1 knows of a plan
pub mod NotesLemmas
-- an agent that can take a step can take the next one
pub mod ReadyLemmas
-- what a walk within one agent leads to
pub mod WalkSteps
-- what an expansion and a state that comes do to an agent
pub mod SearchSteps
-- steps that are made of others
pub mod StepLemmas
-- who may send a message, and which message bytes are
pub mod TakingLemmas
-- what an agent does with bytes, by what its search did with them
pub mod BytesTaken
-- an agent at the start can take a step
pub mod StartLemmas
