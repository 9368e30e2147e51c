pub mod Costs
pub mod Instances
pub mod Counts
pub mod Turns
pub mod Links
pub mod Tables
pub mod Gathering
