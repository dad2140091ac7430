pub mod InTheWay
pub mod KeyOrder
