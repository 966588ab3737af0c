pub mod KeywordLemmas
pub mod Digits
