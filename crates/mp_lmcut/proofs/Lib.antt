-- marks and a search by them; supports; the goal zone; the near side, and that what is cheap is in it; the cut; problems at other
-- costs; the cut as a list; the near side asked for backwards; rounds; how rounds end; problems whose operators dominate one another
pub mod MarkLemmas
pub mod SupportLemmas
pub mod ZoneLemmas
pub mod NearLemmas
pub mod CheapLemmas
pub mod CutLemmas
pub mod CostLemmas
pub mod ListedLemmas
pub mod AskLemmas
pub mod RoundLemmas
pub mod EndLemmas
pub mod EquivalentLemmas
