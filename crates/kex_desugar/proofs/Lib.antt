pub mod PlaceNumbers
pub mod SpotWays
pub mod Registers
pub mod Made
