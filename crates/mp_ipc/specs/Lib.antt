-- plans as classical planners write them
pub mod Ipc
