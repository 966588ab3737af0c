-- To be believed: Full (a schema with candidates behind its own indexes), Requests (what advice is
-- asked for), Lines (the texts of candidates), Planned (what is told of a plan) and of Uses
-- ShowUse. The others tell the steps between to the calls inside. All are `abbrev` or records.
pub mod Full
pub mod Requests
pub mod Lines
pub mod Planned
pub mod Uses
pub mod FewUses
pub mod Marks
