pub mod SortColumns
