pub mod Entries
pub mod Entering
pub mod Reading
