pub mod Members
pub mod Named
pub mod Bits
pub mod Standings
pub mod StandingTurns
pub mod Fitting
pub mod Plannable
