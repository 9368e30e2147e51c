-- messages of a batch that join what waits, and are taken back
pub mod Batched
-- a turn that was taken
pub mod Taken
-- lists of parties
pub mod Lists
-- the halves of a turn
pub mod Halves
-- what a turn tells
pub mod Told
-- parties of two desks in one
pub mod Merging
-- a party that goes to a desk of its own
pub mod Splitting
-- what holds of each of a list
pub mod Each
-- a desk goes to another thread
pub mod Sends
