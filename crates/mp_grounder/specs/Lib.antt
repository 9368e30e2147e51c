-- facts by their places in lists
pub mod Places
-- the grounded factor of an agent
pub mod Grounded
-- which refusal is answered
pub mod Refusals
-- the counts that are limited
pub mod Limits
-- what a factor in numbers becomes
pub mod Numbered
