-- tests of joint states
pub mod KnownLemmas
-- the bounds that joint states have
pub mod BoundLemmas
-- what falls along each step
pub mod PotentialLemmas
-- no plan is cheaper
pub mod Soundness
-- lists of failures that are empty
pub mod EmptyLemmas
-- entries that repeat earlier ones
pub mod DoubleLemmas
-- no failure where a certificate is audited, and none but there
pub mod VerdictLemmas
pub mod FailureLemmas
pub mod HoldsLemmas
-- pairs of items of joined and mapped lists
pub mod PairLemmas
-- what a run is worth in the world after its last cut
pub mod CutLemmas
-- entries that were noted are those after the cut
pub mod NotedLemmas
-- the bounds of a last cut pass the audit
pub mod PassingLemmas
-- the first of what items give, one after the other
pub mod FirstLemmas
-- lists one behind another, and entries in them
pub mod FlatLemmas
pub mod FlatBoundLemmas
-- lists of facts that fit the tasks
pub mod FitLemmas
-- sizes of the sets of joint states
pub mod SizeLemmas
-- joint states as sets that have sizes
pub mod StateLemmas
-- lists that are written over from their front
pub mod FillLemmas
-- whether the facts of lists are the members of sets
pub mod SameLemmas
-- entries found by the places of their states
pub mod ChainLemmas
-- entries that repeat an earlier one, and the bound of an entry that is found
pub mod TableLemmas
-- the first failure of an action, of actions, of an entry
pub mod LeadLemmas
pub mod ActionLemmas
pub mod EntryLemmas
-- what is found by parts
pub mod AuditLemmas
