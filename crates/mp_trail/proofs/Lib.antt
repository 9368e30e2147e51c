-- times of a share, and backs that rise
pub mod ShareLemmas
-- walks follow origins, and count what they note
pub mod WalkLemmas
