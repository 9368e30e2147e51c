-- the machines of tasks
pub mod Machines
-- a team that has ended, and one that was replayed
pub mod Ended
-- why a schedule is not replayed
pub mod Refused
