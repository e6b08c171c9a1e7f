mod DraftSteps
mod EdgeRuns
mod KeptActions
mod KnownEdges
mod BufferWrites
mod Runs
mod PlacedTexts
mod PieceRuns
mod Trails
mod AddedRows
pub mod SheetRuns
mod LeapRuns
mod LastLeaps
mod BareStates
pub mod StoppedCodes
