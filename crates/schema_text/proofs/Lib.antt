pub mod Traversal
pub mod EntryLists
pub mod PartLists
pub mod Collations
pub mod KeyLists
pub mod ColumnLaws
