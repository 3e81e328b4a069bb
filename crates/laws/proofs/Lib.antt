-- The proofs, each file after those that it builds on.
pub mod Equal
pub mod Listed
pub mod Draws
pub mod Hooks
pub mod Edges
pub mod Hung
pub mod Cleft
pub mod Effects
pub mod Proved
