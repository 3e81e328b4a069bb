pub mod View
pub mod Rows
pub mod Nothing
pub mod Copies
pub mod Homes
pub mod Lending
