pub mod Cut
pub mod Laws
pub mod Marked
pub mod Marks
pub mod Sides
