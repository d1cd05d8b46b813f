pub mod Charges
pub mod BookView
pub mod Places
pub mod Laws
pub mod OwnJobs
