pub mod Begun
pub mod Suits
pub mod Compiled
pub mod Laws
