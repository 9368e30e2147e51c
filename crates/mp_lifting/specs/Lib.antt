pub mod Texts
pub mod Views
pub mod Vocabulary
pub mod Privates
pub mod Lifting
pub mod Factors
