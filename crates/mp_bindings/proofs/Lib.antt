-- in reading order: what passes in a product; the first object and the others; loops over the objects; their order
pub mod ProductLemmas
pub mod FirstObjects
pub mod BehindLemmas
pub mod OrderLemmas
