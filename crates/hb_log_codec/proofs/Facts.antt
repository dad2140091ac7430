pub mod OpParts
