pub mod Rests
pub mod EachPart
pub mod Joins
pub mod Sets
pub mod Unions
pub mod NamedClasses
