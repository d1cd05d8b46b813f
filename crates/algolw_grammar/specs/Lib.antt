pub mod Kinds
pub mod Readers
pub mod Taken
pub mod Reading
pub mod Parsing
pub mod Laws
