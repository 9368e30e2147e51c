-- in reading order: laws of runs; costs of plans; simulations
pub mod Runs
pub mod Costs
pub mod Simulations
