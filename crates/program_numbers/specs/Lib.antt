pub mod HoldsClasses
pub mod Makes
pub mod Numbered
pub mod Onto
pub mod ProgramParts
pub mod Taken
