pub mod Facts
pub mod PutTexts
pub mod RunParts
pub mod RunEnds
