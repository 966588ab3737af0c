-- What a reader must believe: Names, Columns and Schemas (what is found, added and taken),
-- CreateTexts, Databases with RisingRowids (which rows conform), and PlainSchemas, the view into
-- `sql_meaning`. The others name what the code keeps beside. All are `abbrev`: each is a few lines.
pub mod Names
pub mod Columns
pub mod ColumnPlaces
pub mod Schemas
pub mod SchemaNames
pub mod PlainSchemas
pub mod CreateTexts
pub mod Databases
pub mod HeldRows
pub mod UsableIndexes
pub mod RisingRowids
