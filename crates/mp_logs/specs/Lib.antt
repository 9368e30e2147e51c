-- logs that are made of parts
pub mod Parts
-- logs of one schedule
pub mod Alike
-- what agents have done that have not yet signed all of it, or found a message to be a bad one
pub mod Served
