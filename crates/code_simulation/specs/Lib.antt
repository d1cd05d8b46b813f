pub mod Written
pub mod UnderWay
pub mod Relation
pub mod Room
pub mod Declared
pub mod Ready
pub mod Following
pub mod Statement
