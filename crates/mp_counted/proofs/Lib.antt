-- a list that is made of what is taken from another one
pub mod Taking
