pub mod MachineTables
mod DifferentShapes
mod ShapeKeys
mod Targets
pub mod Transitions
mod FirstLeaves
mod StateRows
pub mod TableForms
