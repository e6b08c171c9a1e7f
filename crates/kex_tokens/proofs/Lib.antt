pub mod Scans
pub mod Front
pub mod Loops
pub mod Offsets
pub mod Cuts
pub mod LiteralValues
