mod Values
mod FieldsInLine
mod RecordsInLine
pub mod Calls
