-- What stands beside a list of columns: for each name the place of its first column.
use Rattle.std.specs.Prelude.{◌≡◌, ℕ, List, position}
use Rattle.std.specs.Map.{lookup}
use Rattle.schema_model.specs.Names.{is_name}
use Rattle.schema_model.specs.Columns.{has_column_name}
use Rattle.schema_model.specs.declared.columns.Columns.TheInside.{Inside}

abbrev pub KeepsPlaces : Inside → Type 0
KeepsPlaces a = (name : List ℕ) → lookup (λ key. is_name name key.items) a.places.entries
    ≡ position (has_column_name name) a.held.items
