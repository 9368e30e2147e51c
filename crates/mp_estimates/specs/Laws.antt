-- Lemmas on the order of costs, and on how many of a list pass a test.
pub mod Order
pub mod Counts
