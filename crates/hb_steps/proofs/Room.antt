-- What a split and a put know of room.
pub mod Names
pub mod SplitWeights
pub mod SplitHome
pub mod SplitHalves
pub mod RoomKept
pub mod PutHalves
