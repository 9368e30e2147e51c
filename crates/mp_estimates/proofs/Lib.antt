-- in reading order: entries of a queue; numbers that are lowered, and the queue
pub mod ProperLemmas
pub mod LoweringLemmas
