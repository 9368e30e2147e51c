-- sets below a size, their members as lists, what holds of them after an action
pub mod SetLemmas
pub mod ListedLemmas
pub mod NumbersLemmas
-- lists that rise
pub mod RisingLemmas
-- words of 64 bits: their bits, the first one that is set, their number
pub mod WordLemmas
pub mod FirstBitLemmas
pub mod DigitLemmas
-- comparisons
pub mod ComparedLemmas
-- eight words at a time
pub mod LaneLemmas
