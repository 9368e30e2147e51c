-- Lemmas that lead to the laws of heuristics, in reading order: the equations, that rounds come to an end, the bounds.
-- They stand here because the impls of the heuristics cite them.
pub mod Equations
pub mod Rounds
pub mod Bounds
