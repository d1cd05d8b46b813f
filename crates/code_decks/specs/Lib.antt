pub mod CodeRows
pub mod CodeTables
pub mod MoreDecks
pub mod BatchDecks
