pub mod Blocks
pub mod Noted
pub mod Firsts
pub mod Printed
pub mod Compiling
pub mod Ran
