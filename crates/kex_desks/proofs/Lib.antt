pub mod PieceJoins
pub mod LineSearches
