-- levels rise where actions interfere
pub mod LevelLemmas
pub mod MemberLemmas
pub mod PackingLemmas
pub mod ChainLemmas
pub mod OrderLemmas
pub mod ExchangeLemmas
pub mod PlanLemmas
pub mod GroupLemmas
pub mod LinkLemmas
pub mod MarkLemmas
pub mod NumberedLemmas
-- numbered steps clash as the actions of their plan interfere
pub mod StandLemmas
