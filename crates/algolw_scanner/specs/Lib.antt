pub mod Seen
pub mod Front
pub mod Matches
pub mod Cursors
pub mod Decks
pub mod Scans
pub mod Laws
pub mod Beginnings
