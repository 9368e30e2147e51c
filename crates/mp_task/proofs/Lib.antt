-- in reading order: the projected state; tasks that agree; joint states; plans as one agent sees them; estimates
pub mod ProjectedState
pub mod Agreeing
pub mod FarLists
pub mod Disagreeing
pub mod JointStates
pub mod SeenPlan
pub mod Estimates
pub mod Example
