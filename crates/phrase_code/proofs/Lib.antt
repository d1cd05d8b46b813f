pub mod Sizes
pub mod Parts
pub mod Targets
pub mod Pieces
pub mod CallPieces
pub mod Fitting
