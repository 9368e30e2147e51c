pub mod Atoms
pub mod Start
pub mod Held
-- what stands for the parameters of an action
pub mod Binding
-- what a borrowed binding stands for
pub mod Bound
-- bindings in flat lists, and what these stand for
pub mod Flat
