-- What a reader must believe: the statuses, the lines, what words mean (Words), what becomes of a
-- script's pieces (Scripts), `run` with what it cites, and the promises of `expert`. Seen, Answers
-- and Refusals only bring the code's types to these.
-- What reads a whole dump or script is `unfoldable`, so that a goal shows its name, and a proof
-- opens it where its parts are told. The others are `abbrev`: each is a few lines.
pub mod Statuses
pub mod Lines
pub mod Words
pub mod Rans
pub mod Scripts
pub mod Run
pub mod Sound
pub mod Promises
pub mod Seen
pub mod Refusals
pub mod Answers
