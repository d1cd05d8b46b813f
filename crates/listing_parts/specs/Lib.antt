pub mod Lines
pub mod Words
pub mod Sections
pub mod Kinds
pub mod Upwards
pub mod Reads
pub mod Laws
