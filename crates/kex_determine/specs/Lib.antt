pub mod Determined
pub mod Rows
pub mod Numbering
pub mod Ways
pub mod Filling
