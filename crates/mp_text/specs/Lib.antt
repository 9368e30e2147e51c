-- texts and their lines
pub mod Lines
-- the text of a run
pub mod Trace
-- schedules as texts
pub mod Schedule
-- lines read from left to right
pub mod Reading
-- logs whose traces are schedules
pub mod Again
-- the text of an outcome
pub mod Outcome
-- logs with the same texts
pub mod Alike
