pub mod Written
pub mod Verdict
pub mod Means
pub mod Examples
