-- lists that rise strictly, and keys of maps
-- what the proofs cite of other places
mod Basics
pub mod Strict
-- lists to which items are added
pub mod Inserted
-- how facts are compared
pub mod FactOrder
-- the counted facts in their order
pub mod FactsOf
-- steps of loops that add facts
pub mod Steps
-- numbers of facts that are met one after another
pub mod NumberedAll
