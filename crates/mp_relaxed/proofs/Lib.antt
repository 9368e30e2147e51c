-- rows, users and operators in arrays; the projected problem; entries of the queue; numbers and the queue; counts of open
-- preconditions, and of those that are not settled; what is found, and found again; operators that others dominate, and those
-- that are kept; values of states that are kept
pub mod RowLemmas
pub mod TimesLemmas
pub mod UserLemmas
pub mod ZippedLemmas
pub mod ProjectedLemmas
pub mod PlaceLemmas
pub mod QueueLemmas
pub mod SearchLemmas
pub mod CountLemmas
pub mod SettledLemmas
pub mod Found
pub mod AgainLemmas
pub mod DominatedLemmas
pub mod KeptLemmas
pub mod MemoLemmas
