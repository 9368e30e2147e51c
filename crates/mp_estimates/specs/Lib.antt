pub mod Estimates
pub mod Lowering
pub mod Laws
