pub mod LibraryLaws
pub mod Stands
