-- what a refusal says
pub mod Shapes
-- what code finds
pub mod Found
pub mod FoundForms
pub mod FirstCosts
pub mod OfFile
