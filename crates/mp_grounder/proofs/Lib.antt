-- in reading order: numbers of names; lists in an order by their members; members and places of lists; parted lists; numbers of facts as
-- places; texts in order; facts that are the same; refusals that are handed on; what instances cost; what actions stand
-- for; what is grounded in numbers by names, and its counts
-- what the proofs cite of other places
mod Basics
pub mod NumberBounds
pub mod Rising
pub mod Members
pub mod Parted
pub mod Placed
pub mod Sorted
pub mod SameFacts
pub mod Refused
pub mod CheapActions
pub mod Steps
pub mod Standing
