-- lists of rows, each once
pub mod Apart
-- hashes of rows, and their buckets
pub mod Hashes
-- rows of one bucket
pub mod Chains
-- what the fields of a list of rows stand for
pub mod RowFields
