-- To be believed: `table` with what each of its rules begins with (Table, Kinds, Forms, BadTokens),
-- and `IsCut` (Cuts). KindLaws names the laws that follow of each kind. All are `abbrev`: a law is
-- about them, and its proof sees through them.
pub mod Form
pub mod Forms
pub mod Kinds
pub mod BadTokens
pub mod Rules
pub mod Table
pub mod KindLaws
pub mod Cuts
