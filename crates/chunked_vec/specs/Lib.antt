pub mod Chunks
pub mod Lending
