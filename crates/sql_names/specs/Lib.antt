-- To be believed: what a name denotes (Names), which collation compares (Collating), what is bound
-- and which checks come in which order (Binding), `Answers` (Faults) and the laws (Laws). ScopeView
-- and Meanings are views of private types. All are `abbrev`: each takes one layer off its argument.
pub mod Faults
pub mod Scopes
pub mod ScopeView
pub mod Names
pub mod Meanings
pub mod Collating
pub mod Binding
pub mod Laws
