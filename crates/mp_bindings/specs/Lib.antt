pub mod Bindings
pub mod Behind
