-- The proofs, each file after those that it builds on.
pub mod Chained
pub mod Carrying
pub mod Agree
