-- words and lists of a tree
pub mod Words
pub mod Kinds
pub mod Numbers
pub mod Parts
pub mod Conjuncts
pub mod Faults
pub mod Reading
pub mod FactorParts
pub mod FactorFields
pub mod Limits
pub mod Rules
pub mod FromFile
-- what a file says is written in it, and names are names
pub mod Written
pub mod Uses
