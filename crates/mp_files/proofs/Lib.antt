-- readings of items, one after another
pub mod Each
-- from what was fetched to what the files hold
pub mod Held
-- what was done at a source
pub mod Acts
-- from texts to the factors of a team
pub mod Texts
-- readings one after another, and those that lead to one thing alone
pub mod Readings
-- what the files of a team lead to is one thing alone
pub mod One
