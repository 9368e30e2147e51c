-- how what an agent keeps and sends grows
pub mod Growing
-- messages of sent states
pub mod Sent
-- how agents get further
pub mod Further
-- states that are known and sent
pub mod Sound
-- how the states of entries were reached
pub mod Paths
-- how large costs and estimates are
pub mod Room
-- walks back and paths
pub mod Walks
-- what agents have found
pub mod TeamFound
-- estimates and goals of entries
pub mod Estimates
-- what shows that a cost may be
pub mod Witness
-- what an expansion is worth
pub mod Expansions
