pub use Rattle.hb_space.specs.Points
pub use Rattle.hb_set.specs.Scripts
pub use Rattle.hb_text.specs.Grammar
pub mod Draws
pub mod Lines
pub mod Spelling
