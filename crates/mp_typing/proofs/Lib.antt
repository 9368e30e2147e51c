-- names that stand in lists, and in sets
-- what the proofs cite of other places
mod Basics
pub mod Lists
pub mod NameSets
-- faults are in a strict and total order, and the first of them
pub mod FirstLemmas
-- borrowed names in a map, and what it says of the declarations that are put into it
pub mod IndexLemmas
pub mod LookupLemmas
-- names that earlier items have, and parameters that come second
pub mod RepeatLemmas
pub mod ParameterLemmas
-- what a check answers
pub mod CheckLemmas
-- the first declaration of each name
pub mod Listing
-- objects with names of their own
pub mod DistinctLemmas
-- the order of types: its laws, and the tests along the declarations
pub mod Ordering
pub mod Lowering
pub mod Finding
pub mod Typing
-- what is listed by types, and the objects that are of a type
pub mod ByTypeLemmas
pub mod RangeLemmas
pub mod HierarchyLemmas
-- items of a list that pass a test, and their places
pub mod Passing
pub mod Placing
