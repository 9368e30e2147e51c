-- places of sets in lists, and lists with one set more
pub mod Places
-- the order of first use
pub mod Orders
-- a table that grows
pub mod Growing
