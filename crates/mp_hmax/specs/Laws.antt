-- Lemmas that lead to the laws of the heuristic. They stand here because its impl cites them.
pub mod Bounds
