-- texts of schedules that a trace begins
pub mod Traces
-- what renaming leaves as it is
pub mod Renamed
-- what two searches by one schedule have in common
pub mod Same
