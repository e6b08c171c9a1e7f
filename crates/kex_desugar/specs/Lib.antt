pub mod Machines
pub mod Plans
pub mod Spots
