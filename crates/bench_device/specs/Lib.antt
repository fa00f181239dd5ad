pub mod Device
pub mod Ports
