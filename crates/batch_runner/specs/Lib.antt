pub mod Board
pub mod Outcome
pub mod Progress
pub mod ProgressLaws
