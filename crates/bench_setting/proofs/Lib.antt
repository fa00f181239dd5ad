pub mod Apart
pub mod SettingFacts
pub mod Computed
pub mod Small
pub mod Bodies
