pub mod Run
pub mod Simulation
pub mod System
