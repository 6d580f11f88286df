pub mod ToSplit
pub mod ToJoin
pub mod ToCheck
