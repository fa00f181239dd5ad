pub mod Chains
pub mod Cones
pub mod Printed
pub mod Reasons
