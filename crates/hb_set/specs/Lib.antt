pub use Rattle.hb_space.specs.Points
pub use Rattle.hb_space.specs.Boxes
pub mod Machine
pub mod Order
pub mod Sizes
pub mod Laws
pub mod Scripts
pub mod Kept
