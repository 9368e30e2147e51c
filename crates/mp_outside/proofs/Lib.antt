pub mod Acts
pub mod Files
pub mod Known
pub mod Losing
