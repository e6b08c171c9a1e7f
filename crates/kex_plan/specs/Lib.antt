pub mod Commons
pub mod Plans
