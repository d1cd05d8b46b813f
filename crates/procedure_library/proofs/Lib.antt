pub mod MovedTokens
pub mod Trees
pub mod Items
