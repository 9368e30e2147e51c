-- what a certificate says, and when it shows that no plan is cheaper
pub mod Audited
-- lists and entries one behind another
pub mod Flat
-- certificates whose entries take little memory
pub mod FlatCertificates
-- which certificates may be audited
pub mod Fits
-- what an audit finds
pub mod Failures
-- what a finished run shows at its last cut
pub mod LastCut
-- joint states as sets that have sizes
pub mod States
-- how entries are found by their states
pub mod Chains
-- what is worked out before entries are audited one by one
pub mod Tables
