pub mod Entries
pub mod Cutting
pub mod BlockRows
pub mod HeldRows
pub mod LoopRows
pub mod ControlRows
pub mod JumpRows
