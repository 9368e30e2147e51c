-- words one after another
mod WordLemmas
-- digits one after another
mod NumberLemmas
-- what the value of an option leads to
pub mod OptionLemmas
