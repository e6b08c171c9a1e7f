pub mod NumberedEdges
pub mod Books
