pub mod Settings
pub mod Limited
pub mod Examples
