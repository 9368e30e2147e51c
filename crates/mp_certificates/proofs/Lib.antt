-- numbers, read and spelled
mod NumberLemmas
-- lists of facts
mod FactLemmas
-- lists of private facts, as a loop reads them
mod ListLemmas
-- lines
mod LineLemmas
-- entries one after another
mod EntryLemmas
-- texts have one reading
mod ReadingLemmas
-- items that are taken one by one
mod TakenLemmas
