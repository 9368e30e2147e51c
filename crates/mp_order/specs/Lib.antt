pub mod Examples
pub mod Ordered
pub mod Steps
