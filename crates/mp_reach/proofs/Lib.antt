-- in reading order: a way leaves a witness; an ordered plan is a way; a way is a plan; changes keep what is explored; what each plan
-- leaves; where each state counts as a goal; the worked team
pub mod Witnesses
pub mod TeamWays
pub mod WaysArePlans
pub mod Changing
pub mod PlanWitness
pub mod NothingLeftOut
pub mod WorkedTeam
