pub mod Classes
pub mod Held
pub mod Laws
