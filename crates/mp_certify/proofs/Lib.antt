-- of the entries of a state the latest one is the cheapest
pub mod LatestLemmas
-- keys of states
pub mod KeyLemmas
-- private facts, list by list
pub mod FactLemmas
-- bounds of entries
pub mod MadeLemmas
-- certificates of runs
pub mod CertificateLemmas
