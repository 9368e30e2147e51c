-- what is asked of a team: where its texts are, and what is done with it
pub mod Asked
-- the text of the file that stands before those of the agents
pub mod FirstText
-- what the texts of a team lead to
pub mod Team
-- statuses as numbers
pub mod Status
-- why a call ends without an outcome, and the line that says so
pub mod Refusal
-- the first refusal by what the texts are
pub mod First
-- what a call leaves to its caller
pub mod Report
-- what is seen of a call
pub mod Call
-- what a refusal rests on
pub mod Cause
-- what is printed for a request, and the report
pub mod Outcome
-- what is known where nothing was decided
pub mod Undecided
-- what is asked of whoever lets a team search
pub mod Finding
-- the outcome of a request, before it is printed
pub mod Decided
-- what each call keeps
pub mod Keeps
-- what follows of that
pub mod Complete
-- what telling a decision comes to
pub mod Printed
