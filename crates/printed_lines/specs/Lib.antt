pub mod Texts
pub mod Phrases
pub mod States
pub mod Laws
