-- that facts are the same says that they are equal
pub mod SameFacts
