pub mod Firsts
pub mod Marks
pub mod Nearest
pub mod PathSizes
pub mod Standards
