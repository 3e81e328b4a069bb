pub mod Names
pub mod Listed
pub mod Tests
pub mod Pairs
pub mod Worded
