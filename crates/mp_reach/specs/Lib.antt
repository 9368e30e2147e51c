pub mod Changes
pub mod Examples
pub mod Explored
pub mod Found
pub mod LeadsOn
pub mod Ways
