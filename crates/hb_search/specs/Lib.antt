pub mod SearchRows
pub mod Laws
pub mod Examples
pub mod Searching
pub mod Gathering
