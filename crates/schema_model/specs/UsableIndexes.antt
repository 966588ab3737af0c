-- Indexes that no plan uses.
use Rattle.std.specs.Prelude.{◌≡◌, false, []}
use Rattle.schema_model.specs.declared.indexes.Index.{Index}

-- an index that isn't usable has no columns
abbrev pub IsEmptyUnlessUsable : Index → Type 0
IsEmptyUnlessUsable index = index.usable ≡ false → index.columns ≡ []
