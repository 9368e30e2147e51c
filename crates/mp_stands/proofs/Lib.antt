-- in reading order: lists; whose facts facts are; what factors contribute; facts and
-- complements; what is counted; numbers; states that match; what holds after an instance; own actions; starts and goals;
-- steps; what answers a step; simulations; plans that are named
pub mod MemberLists
pub mod Owners
pub mod Contributed
pub mod Signed
pub mod Counted
pub mod NamedNumbers
pub mod States
pub mod After
pub mod Actions
pub mod MatchingStarts
pub mod NamedSteps
pub mod Answering
pub mod Simulations
pub mod NamedPlans
-- lists, and lists in which no key comes twice, that are made item by item, and that rise; places;
-- texts and the names that they tell, and lines; what agents show of their predicates; declared names; the start; the
-- grounded steps, and that none comes twice; what is counted, and the goals; counted facts and their texts; the team's
-- table; a numbering; private facts; numbers of facts; actions; the private start and the goals by numbers; the task of
-- an agent; public parts of actions, and what an agent shows of them; that tasks agree; the public start; all together
pub mod JoinedLists
pub mod Once
pub mod Made
pub mod Places
pub mod Ordered
pub mod Words
pub mod Lines
pub mod Shown
pub mod Named
pub mod Spelled
pub mod Starting
pub mod GroundedSteps
pub mod DistinctSteps
pub mod Counts
pub mod Facts
pub mod Tables
pub mod Numbering
pub mod Own
pub mod TaskNumbers
pub mod Acts
pub mod Goals
pub mod Standing
pub mod PublicParts
pub mod Shows
pub mod Agreement
pub mod PublicStart
pub mod Files
-- Lists that are mapped, filtered and looked through; names by a one-to-one map; types, objects, the
-- vocabulary, atoms, predicates, actions, facts and what is shown of a factor by other names; that the factor is the
-- same in numbers; and two factors that are the same by other names.
pub mod Naming
pub mod Alike
-- Of two factors that are the same in numbers: what is private and what is true at the start; the instances; facts by
-- their names.
pub mod SameStarts
pub mod Instances
pub mod Told
-- Lists place by place; that what is grounded is determined; the same numbers and texts; what an agent
-- grounds of both factors; what its steps are called; and the tasks of both teams.
pub mod ComparedLists
pub mod Unique
pub mod SameNumbers
pub mod SameGrounds
pub mod RenamedSteps
pub mod Teams
