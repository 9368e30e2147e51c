pub mod Acts
pub mod Calls
pub mod Memory
pub mod Noted
pub mod Sink
pub mod Source
