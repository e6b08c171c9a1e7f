pub mod Sayings
pub mod History
pub mod Fronts
pub mod Troubles
pub mod PipelineLaws
pub mod Piped
