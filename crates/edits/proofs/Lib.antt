-- The proofs, each file after those that it builds on.
pub mod Points
pub mod Tables
pub mod Keeping
