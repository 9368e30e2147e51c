-- Lemmas that lead to the laws of the heuristic, in reading order: rounds come to an end; what they end with are the least
-- costs of plans, and how great these are; abstract states; how many facts a pattern has; the laws of the heuristic. They
-- stand here because its impl cites the last ones.
pub mod Rounds
pub mod Least
pub mod Sizes
pub mod States
pub mod Growth
pub mod Bounds
