-- texts without capital letters
mod FoldedLemmas
-- the files of one agent more
mod AgentLemmas
