pub mod SplitRows
pub mod SessionRows
pub mod Laws
pub mod Examples
pub mod Asks
pub mod Doing
