pub mod Command
pub mod Form
pub mod Laws
