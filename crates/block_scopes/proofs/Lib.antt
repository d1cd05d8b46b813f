pub mod PlaceOrder
pub mod StableSorts
pub mod Standards
