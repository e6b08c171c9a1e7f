pub mod Items
pub mod Ends
pub mod Passing
pub mod Looking
pub mod Settling
pub mod Lines
pub mod Props
pub mod Standing
