pub mod Integers
pub mod Strings
pub mod Items
pub mod Lines
pub mod Dumps
pub mod Classes
