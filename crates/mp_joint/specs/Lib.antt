pub mod Fact
pub mod FactorContribution
pub mod Grounding
pub mod Instance
pub mod Grounded
pub mod Plan
pub mod Static
pub mod Examples
