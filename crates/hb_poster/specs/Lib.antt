pub mod PosterRows
pub mod Asks
pub mod Laws
pub mod Examples
