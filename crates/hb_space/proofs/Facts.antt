pub mod Boxes
pub mod Intervals
pub mod Lists
pub mod Outside
pub mod PointOrder
