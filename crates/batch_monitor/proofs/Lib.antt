pub mod Boards
pub mod Closed
pub mod Closings
pub mod Endings
pub mod Known
pub mod SaidOrders
pub mod Stating
