-- What holds between the changes of single names, what the changes keep, and what they do to the counts and to flat.
pub mod Rotations
pub mod Keeps
pub mod Laws
