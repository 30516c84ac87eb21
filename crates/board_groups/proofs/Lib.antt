pub mod Ends
pub mod ExecLaws
pub mod Facts
pub mod Filling
pub mod KeyLaws
pub mod RowLaws
pub mod ShareLaws
pub mod TapLaws
