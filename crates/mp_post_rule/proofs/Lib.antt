-- a function changed at one place; what is there in a list
pub mod Places
-- the parties of changed views
pub mod Parties
-- the start
pub mod Opens
-- a turn is taken
pub mod Takes
-- a turn is released
pub mod Releases
-- a party goes to a new seat
pub mod Splits
-- a seat takes over another's parties
pub mod Joins
-- counts of messages in lists
pub mod Counts
-- stamps that rise
pub mod Stamps
-- a batch, as lists and posts see it
pub mod Batches
-- a receipt, as lists and posts see it
pub mod Receipts
-- a signing, as the table sees it
pub mod Carries
-- the kinds of signings
pub mod Signs
-- signings after a value was put into the slot in hand
pub mod Laid
-- a look
pub mod Looks
