pub mod Compared
pub mod Props
pub mod Vertices
