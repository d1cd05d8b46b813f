pub mod Resolution
pub mod Says
