-- which value or refusal something leads to
pub mod Reading
-- what one file leads to
pub mod File
-- what the files of a team lead to
pub mod Team
-- the files that a source is asked for
pub mod Asked
-- what is seen of a source, and what a refusal rests on
pub mod Cause
-- what was fetched
pub mod Fetched
-- what was read of it
pub mod Said
