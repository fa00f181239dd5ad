pub mod Events
pub mod Observations
pub mod Behind
pub mod After
pub mod Laws
