-- The forms of MA-PDDL, each with the rule by which it is read.
pub mod Words
pub mod Atoms
pub mod Conditions
pub mod Costs
pub mod Effects
pub mod Typed
pub mod Signatures
pub mod Actions
pub mod Init
pub mod Sections
pub mod Files
