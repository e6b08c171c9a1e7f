pub mod Holdings
pub mod Actions
pub mod Deeds
pub mod Actors
pub mod Faults
pub mod Sheets
