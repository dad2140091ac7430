pub mod Facts
pub mod WaysDown
pub mod Thirds
pub mod Better
pub mod Values
pub mod Nexts
pub mod Centers
pub mod FewCuts
