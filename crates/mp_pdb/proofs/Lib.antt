-- in reading order: bits of masks, and sets of facts as masks; how a pattern grows; moves of operators; moves of masks; the
-- sets that masks stand for; the parts of a mask, from the greatest one on; numbers and the queue; what a table has
pub mod MaskLemmas
pub mod GrowthLemmas
pub mod OperatorLemmas
pub mod MoveLemmas
pub mod ChosenLemmas
pub mod PartLemmas
pub mod TableLemmas
pub mod Found
