-- what the proofs cite of other places
mod Basics
pub mod Growing
-- names that are declared, one declaration after another, and names that a vocabulary has
pub mod DeclaredNames
pub mod Known
-- the objects that are of a type are the places of those that pass the test of types
pub mod MemberPlaces
-- what stands between brackets, and words with a space between each two
pub mod BracketLemmas
pub mod Words
-- literals that a condition asks for, or has under `not`
pub mod Parts
-- a factor in numbers, put together from its parts
pub mod Assembled
