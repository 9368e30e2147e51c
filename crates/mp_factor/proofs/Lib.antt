-- trees; what is found where readings are put together; forms that loops read; keys, values and sections
-- what the proofs cite of other places
mod Basics
pub mod TreeLemmas
pub mod Steps
pub mod ConjunctLemmas
pub mod NumberLemmas
pub mod FirstLemmas
pub mod FoundLemmas
pub mod CountLemmas
pub mod SectionLemmas
pub mod PartLemmas
pub mod ReadFiles
pub mod TypedLemmas
pub mod EffectLemmas
pub mod OnceLemmas
pub mod KeyLemmas
pub mod FirstCostLemmas
