pub mod Limits
pub mod Turn
pub mod Sides
pub mod Props
pub mod Counts
pub mod Refusals
pub mod Words
