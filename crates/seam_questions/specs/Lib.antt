pub mod Sides
pub mod Homes
pub mod Vertices
