pub mod CellShown
pub mod DumpLines
pub mod RecordShown
pub mod RunShown
pub mod BoundsShown
pub mod Preparing
pub mod RowsThere
