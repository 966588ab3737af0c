-- In reading order. A reader must believe all that `Means` speaks of: values and expressions up to
-- Evaluation, Schemas, Items and IndexLists, Walks and Paths, Statements, Conjuncts, Plans, Orders
-- and Asked. Terms, Links, LikeTerms, UsedTerms, OrderState, Fitting and Offers say for which plans
-- `Means` is proved; Choices, Serving and TermLists list terms and choose among them, and laws tie
-- them to the former.
-- The laws are the files whose names end in Laws.
-- A definition is an `abbrev`, so that examples compute and proofs open it unasked. `Means` alone
-- is `unfoldable`: those above hand it on whole, and open it by name where they read it.
pub mod Letters
pub mod Values
pub mod Numbers
pub mod Conversions
pub mod Truth
pub mod DeclaredTypes
pub mod Rows
pub mod Likes
pub mod Expressions
pub mod Evaluation
pub mod Schemas
pub mod Items
pub mod IndexLists
pub mod Walks
pub mod Paths
pub mod Terms
pub mod Links
pub mod Statements
pub mod Conjuncts
pub mod Plans
pub mod LikeTerms
pub mod UsedTerms
pub mod Orders
pub mod OrderState
pub mod Fitting
pub mod Offers
pub mod Asked
pub mod Choices
pub mod Serving
pub mod TermLists
pub mod LikeLaws
pub mod CellLaws
pub mod ConditionLaws
pub mod TermLaws
pub mod PathLaws
pub mod PlanLaws
pub mod ChoiceLaws
