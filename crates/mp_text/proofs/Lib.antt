-- a schedule that is read event by event
pub mod Known
-- the first line of a text
pub mod LineLemmas
-- the messages that an agent puts before its next event
pub mod PutLemmas
-- numbers of agents, read and written
pub mod NumberLemmas
-- bytes and pairs of agents, read and written
pub mod PairLemmas
-- members of lists, and the first one that passes a test
pub mod MemberLemmas
-- a team's agents, pairs and events
pub mod TeamLemmas
-- the line of an event
pub mod EventLemmas
-- the line of a message
pub mod MessageLemmas
-- texts without line feeds
pub mod PlainLemmas
-- the trace of a log is read as its schedule
pub mod AgainLemmas
-- a share with one action more
pub mod ShareLemmas
-- what a trace tells of a log, what is counted over it, and that its events are those of their agents
pub mod ToldLemmas
pub mod CountLemmas
pub mod OwnLemmas
-- logs with the same texts
pub mod SameLemmas
