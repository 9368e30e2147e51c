-- what holds of each request that is accepted
pub mod WordLemmas
-- a team that texts lead to is checked
pub mod Checked
-- how many texts are made, and that none is a file that cannot be read
pub mod Made
-- the status of a valid plan comes exactly with its text
pub mod Valid
-- what workers have found
pub mod Workers
-- what was fetched of the first file is what it holds
pub mod FirstFile
-- the texts of a request have one first refusal
pub mod One
-- what a sink gained
pub mod Said
-- from a decision on a team to what the texts lead to
pub mod Decided
-- what was fetched of two first files is what they hold
pub mod TwoTexts
-- what was done at a source for a request
pub mod Acts
-- what a call keeps, by how it ends
pub mod Kept
-- how a call ends for a request, and with which statuses
pub mod Ends
-- where nothing is refused, a call answers
pub mod Complete
-- the first refusal comes
pub mod FirstTold
-- what is found for the agents of a request leads to one team
pub mod OneTeam
-- what is printed for two requests
pub mod OfTwo
-- what is known where nothing was decided
pub mod Spent
