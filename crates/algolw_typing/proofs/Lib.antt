mod Declarations
mod FaultOrder
mod NameTypes
mod KeptTrees
pub mod Decided
mod DecidedNames
pub mod GoodScopes
pub mod GoodBlocks
pub mod SoundOuts
mod SoundParts
pub mod WholeTrees
mod KnownTypes
mod KnownNames
mod KnownScopes
mod KnownBlocks
mod KnownOuts
mod KnownParts
mod KnownDecls
mod KnownTrees
mod NamedClasses
pub mod KnownPrograms
