-- When the terms that a path uses hold.
use Rattle.std.proofs.Common.{Bool, List, ℕ}
use Rattle.sql_meaning.specs.Values.{Value}
use Rattle.sql_meaning.specs.Rows.{Assignment}
use Rattle.sql_meaning.specs.UsedTerms.{Used, AllOf, AnyOf, all_terms, any_terms}

-- each used term holds; of a union, those of some branch do
abbrev pub used_holds : Assignment → List Value → ℕ → Used → Bool
used_holds env params item (AllOf ts) = all_terms env params item ts
used_holds env params item (AnyOf tss) = any_terms env params item tss
