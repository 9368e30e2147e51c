-- the tasks of a team agree and keep the limits
pub mod Tasks
-- a plan is told to be optimal exactly where it is
pub mod Telling
-- an optimal plan is a cheapest one
pub mod Cheapest
-- what an audit finds of texts that were read
pub mod Audited
-- a certificate has one refused line
pub mod Refused
-- what certifies a search
pub mod CertifiedRuns
