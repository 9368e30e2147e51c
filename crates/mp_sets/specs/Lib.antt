pub mod Compared
pub mod Numbers
pub mod Words
