pub mod SideMarks
pub mod HomeMarks
pub mod Numbering
