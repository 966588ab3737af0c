pub mod NameKeys
pub mod ColumnPlaces
pub mod Sound
pub mod RowidColumns
pub mod HeldRows
pub mod ByteLists
pub mod RisingOrder
