pub mod Modes
pub mod Shelves
pub mod Threads
pub mod Queues
pub mod Houses
pub mod Tables
pub mod Examples
pub mod Laws
