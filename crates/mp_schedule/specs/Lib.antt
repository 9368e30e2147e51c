-- the messages under way between the agents of a team
pub mod UnderWay
-- a team that runs, as contracts see it
pub mod TeamRun
-- what an event leads to, or why it does not happen
pub mod Happening
-- the machines of a team, and how they make a run
pub mod Machines
-- an event of a team, part by part
pub mod Steps
-- whether an event happened, and parts of a schedule that go on
pub mod GoingOn
-- the machines of a team after a legal schedule
pub mod Finished
-- the laws of every run of a team
pub mod Laws
