-- the latest entries of the states that agents had noted
pub mod Latest
-- states as keys of a set
pub mod Keys
-- machines of a team that has run
pub mod Team
-- bounds that are made of entries
pub mod Made
-- the certificate of a run that has ended
pub mod Certified
