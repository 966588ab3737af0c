pub mod TreeLists
