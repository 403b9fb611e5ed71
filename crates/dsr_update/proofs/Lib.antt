pub mod ByteCells
pub mod StepLayouts
pub mod Left
pub mod Putting
pub mod RecordEntries
pub mod RecordLines
pub mod RecordSlots
