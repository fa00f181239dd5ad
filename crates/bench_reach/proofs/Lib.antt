pub mod Reaching
pub mod Origins
pub mod Bounding
pub mod Tables
pub mod Bodies
pub mod Moves
pub mod Naming
pub mod Standing
