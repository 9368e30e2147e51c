pub mod Facts
pub mod Keys
pub mod Mixed
pub mod Touched
pub mod Ground
pub mod Numbers
