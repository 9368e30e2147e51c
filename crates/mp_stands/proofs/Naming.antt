-- A factor by other names, part by part, is the same in numbers.
pub mod Lists
pub mod Names
pub mod Typing
pub mod Objects
pub mod Vocabulary
pub mod Atoms
pub mod Views
pub mod Actions
pub mod Facts
pub mod Shown
pub mod Factors
