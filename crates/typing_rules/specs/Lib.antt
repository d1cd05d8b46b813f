pub mod ClassSets
pub mod View
pub mod MeaningView
pub mod Parts
pub mod Lefts
