-- what waits at posts
pub mod Queues
-- what seats know, and how steps change it
pub mod Views
-- the rule
pub mod Rule
-- what each kind of step tells
pub mod Kinds
-- the table of the posts, as contracts see it
pub mod Table
