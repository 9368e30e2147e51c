-- lists in an order, and texts in the order of their bytes
pub mod Sorted
-- what an agent shows before grounding
pub mod Opened
-- views as texts
pub mod Lines
-- public parts of actions in the order of their lines
pub mod Parts
-- the public part of what an agent has grounded
pub mod Public
