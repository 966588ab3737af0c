-- A reader must believe what Order, Stretch and FirstComing say of lists, and Nest of nested loops;
-- in NestLaws stand the laws of these that are too long for a clause. Tally serves one law, which
-- ties std's IsPermutation to weights. Each definition is an `abbrev`, so that clauses compute.
pub mod Tally
pub mod Order
pub mod Stretch
pub mod FirstComing
pub mod Nest
pub mod NestLaws
