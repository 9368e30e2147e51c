-- when two texts are the files of a factor
pub mod Accepted
