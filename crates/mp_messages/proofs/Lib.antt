-- bytes that a reader takes from the front
pub mod Taking
-- fields: what is read is spelled so, and what is spelled so is read
pub mod Fields
-- the same of a whole state
pub mod States
-- the same of messages, and what follows for what reads them
pub mod Messages
-- the message that bytes spell
pub mod Spelled
-- loops that read one item after the other
pub mod Loops
-- states that are read in parts
pub mod Parts
-- histories that grow
pub mod Histories
-- what `==` answers
pub mod Comparisons
-- lines of a log whose area grows
pub mod LogLemmas
