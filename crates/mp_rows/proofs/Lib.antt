-- buckets are below their number
pub mod BucketLemmas
-- rows of one bucket
pub mod ChainLemmas
-- rows and their places
pub mod RowLemmas
-- how a row is found
pub mod FindLemmas
