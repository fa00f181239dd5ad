pub mod Chosen
pub mod FirstOrders
pub mod Speaking
pub mod Turning
