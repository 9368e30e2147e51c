-- desks, as contracts see them
pub mod Desks
-- growth that a batch needs
pub mod Growth
-- what turns do to what a seat knows
pub mod Turns
-- what a halt does to it
pub mod Halts
-- what splits and merges do to it
pub mod Parts
-- parties of two desks in one
pub mod Moves
