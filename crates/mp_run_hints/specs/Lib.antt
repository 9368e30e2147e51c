-- answers of teams that have run
pub mod Answered
