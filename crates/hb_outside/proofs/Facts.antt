pub mod CountLaws
pub mod PutLaws
