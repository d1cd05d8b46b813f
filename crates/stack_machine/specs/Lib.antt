pub mod Dumped
pub mod Desks
pub mod Runs
pub mod SpelledRows
