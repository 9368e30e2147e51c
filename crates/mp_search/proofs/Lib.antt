-- keys with indices of sets, and the states that they stand for
pub mod KeyedStates
-- offers of keys, and of their states
pub mod OfferedStates
-- states that are known at a cost
pub mod KnownStates
-- the private sets in the states that were sent
pub mod SentSets
-- steps of an expansion, one after another
pub mod SendingSteps
-- own actions one after another, and the expansion of an entry
pub mod ActionSteps
-- the message that bytes spell
pub mod Spelled
-- what is answered to a state that comes from another agent
pub mod Receiving
-- whether some of a row of numbers pass a test
pub mod ConcernLemmas
