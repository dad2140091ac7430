pub mod FirstPage
pub mod LightPages
pub mod Staying
pub mod Untold
