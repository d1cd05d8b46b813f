pub mod Firsts
pub mod Looking
pub mod Marking
