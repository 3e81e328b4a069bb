pub mod Walking
pub mod Marking
pub mod Sweeps
pub mod Floods
pub mod Buffers
