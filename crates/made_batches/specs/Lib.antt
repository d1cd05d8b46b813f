pub mod Decks
pub mod Draws
pub mod Laws
pub mod MadeBatch
