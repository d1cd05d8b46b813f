pub mod Balances
pub mod Adding
pub mod Stating
pub mod Alike
