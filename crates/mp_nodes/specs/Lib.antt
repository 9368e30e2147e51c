-- nodes, and when they fit what a desk knows
pub mod Nodes
-- the steps of a node
pub mod Steps
-- what a worker answers
pub mod Served
