pub mod Minima
pub mod VerdictRule
pub mod Notes
pub mod Rules
pub mod NotesFields
