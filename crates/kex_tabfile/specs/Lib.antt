pub mod Lines
pub mod PlaceNumbers
pub mod TreeMarks
pub mod Readers
pub mod Walks
pub mod TableFiles
pub mod Checking
pub mod Writing
