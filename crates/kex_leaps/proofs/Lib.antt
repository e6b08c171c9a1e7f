mod RowScans
mod TextEnds
mod LeapEffects
mod KeptMarks
