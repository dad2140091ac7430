pub mod LoneLaws
pub mod Beyond
pub mod KeptStores
