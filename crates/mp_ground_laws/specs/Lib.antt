pub mod Checked
pub mod Named
pub mod Grounding
pub mod Counted
pub mod Listing
pub mod Tried
pub mod Numbered
