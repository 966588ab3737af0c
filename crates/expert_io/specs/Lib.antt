-- What a reader must believe: Faults, Told and Written, in which the contracts of shelves and sinks
-- speak, and Objects, for the objects in memory. ReadFaults and Left serve their proofs.
-- All are `abbrev`: each is a few lines, which a proof may see opened.
pub mod Faults
pub mod ReadFaults
pub mod Told
pub mod Left
pub mod Objects
pub mod Written
