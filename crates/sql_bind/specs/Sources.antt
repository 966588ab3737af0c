-- FROM: its checks, and what names are looked up in (lang_select, "Determination of input data").
use Rattle.std.specs.Prelude.{ℕ, Bool, nat_lt, if◌then◌else◌, Option, Some, None, unwrap_or, map}
use Rattle.std.specs.Prelude.{List, [], ◌∷◌, ◌++◌, length, false, flat_map}
use Rattle.sql_meaning.specs.Letters.{folded_bytes}
use Rattle.sql_meaning.specs.Items.{Item}
use Rattle.sql_tree.specs.Statements.{SourceTree}
use Rattle.schema_model.specs.Names.{has_name}
use Rattle.schema_model.specs.Schemas.{Schema, found_table}
use Rattle.schema_model.specs.declared.tables.Found.{Found}
use Rattle.schema_model.specs.declared.tables.Found.TheVariants.{Read, Unread, Missing}
use Rattle.sql_bound.specs.Fits.{most_items}
use Rattle.sql_names.specs.declared.faults.BindFault.{BindFault}
use Rattle.sql_names.specs.declared.faults.BindFault.TheVariants as fault
use Rattle.sql_names.specs.Scopes.{Scope}

-- what the schema has under the table's name
abbrev pub found : Schema → SourceTree → Found
found schema source = found_table schema (folded_bytes source.table)

abbrev pub table_fault : List ℕ → Found → Option BindFault
table_fault name (Read number) = None
table_fault name Unread = Some (fault.UnreadTable name)
table_fault name Missing = Some (fault.NoSuchTable name)

abbrev pub table_checks : Schema → SourceTree → List (Option BindFault)
table_checks schema source = table_fault source.table (found schema source) ∷ []

-- the name that the other clauses know it by: its alias, else its table's
abbrev pub known_as : SourceTree → List ℕ
known_as source = unwrap_or source.alias source.table

abbrev pub name_check : List (List ℕ) → List ℕ → Option BindFault
name_check earlier name =
    if has_name (folded_bytes name) earlier then Some (fault.SameName name) else None

-- no source is known by the name of an earlier one
abbrev pub name_checks : List (List ℕ) → List (List ℕ) → List (Option BindFault)
name_checks earlier [] = []
name_checks earlier (name ∷ names) =
    name_check earlier name ∷ name_checks (earlier ++ folded_bytes name ∷ []) names

abbrev pub count_check : List SourceTree → Option BindFault
count_check sources = if nat_lt most_items (length sources) then Some fault.TooManyTables else None

abbrev pub from_checks : Schema → List SourceTree → List (Option BindFault)
from_checks schema sources =
    count_check sources ∷ (flat_map (table_checks schema) sources
    ++ name_checks [] (map known_as sources))

-- the number of a table, and 0 where it isn't read
abbrev pub table_number : Found → ℕ
table_number (Read number) = number
table_number Unread = 0
table_number Missing = 0

-- an item of FROM, the name that the other clauses know it by, and its alias
pub record NamedItem : Type 0 where
  pub name : List ℕ
  pub alias : Option (List ℕ)
  pub item : Item

abbrev pub named_item : Schema → SourceTree → NamedItem
named_item schema source = record {
  name = known_as source;
  alias = source.alias;
  item = record {
    table = table_number (found schema source);
    cross = source.cross;
    left = source.left;
  };
}

-- LEFT JOIN stands before the first one, where there is nothing to its left
abbrev pub begins_left : List SourceTree → Bool
begins_left [] = false
begins_left (source ∷ sources) = source.left

abbrev pub scope_from : Schema → List NamedItem → Scope
scope_from schema list = record {
  schema = schema;
  names = map (λ n. folded_bytes n.name) list;
  items = map (λ n. n.item) list;
}

abbrev pub scope_of : Schema → List SourceTree → Scope
scope_of schema sources = scope_from schema (map (named_item schema) sources)
