-- what the proofs cite of other places
mod Basics
pub mod Found
-- facts that are kept, one by one
pub mod Keeping
-- flat bindings, with one more, and one at a place
pub mod FlatLemmas
