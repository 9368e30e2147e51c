-- in reading order: static preconditions at their turn; what is tried and found so; the first value of each function; instances that are gathered; what is kept as links; which members they leave
-- what the proofs cite of other places
mod Basics
pub mod Turning
pub mod Passing
pub mod ValueLemmas
pub mod Gathers
pub mod LinkLemmas
pub mod Narrowing
