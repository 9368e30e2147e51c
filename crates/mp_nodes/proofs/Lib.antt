-- a party after a turn
pub mod Parties
-- a node after a turn
pub mod AfterTurns
-- a node after a step of its machine
pub mod AfterSteps
-- parts of a turn one after another
pub mod OneAfterAnother
-- places of a worker
pub mod Places
