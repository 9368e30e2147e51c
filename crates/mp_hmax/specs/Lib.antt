pub mod Hmax
pub mod Laws
