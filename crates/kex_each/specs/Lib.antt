pub mod Lines
pub mod Texts
pub mod Answers
pub mod Chains
pub mod Desks
pub mod Pieces
pub mod Laws
