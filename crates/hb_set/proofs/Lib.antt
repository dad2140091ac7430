pub mod Facts
mod Views
mod Windows
