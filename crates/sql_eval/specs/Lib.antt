-- The promise is `eval`'s: it answers `ev` of sql_meaning. A reader must believe Environments: what
-- an environment is seen as, and which rows an expression needs. Seen is the views of a private
-- type, for its own calls. Each definition is an `abbrev`, since all of them are short and each
-- proof looks through them.
pub mod Environments
pub mod Seen
