-- the order of first use, and tokens
pub mod Order
-- what contracts see of a table
pub mod Table
-- sets as rows of their words
pub mod SetRows
-- the table that the program's fields stand for
pub mod TokenFields
