-- Tables and columns of items that are there.
use Rattle.std.proofs.Common.{◌≡◌, ◌<◌, ℕ, Bool, Some, option_map, List, [], ◌∷◌, length}
use Rattle.std.proofs.Common.{map, position, refl, ap, ◌∙◌, get_or}
use Rattle.std.specs.List.{slice_get}
use Rattle.std.proofs.lemmas.Option.{slice_get-map, slice_get_read}
use Rattle.std.proofs.lemmas.List.{length-map}
use Rattle.std.proofs.lemmas.List.Quantifiers.{position-Some}
use Rattle.sql_bound.specs.Statements.{item_of}
use Rattle.sql_bound.specs.declared.statement.BItem.{BItem}
use Rattle.schema_model.specs.Schemas.{Schema}
use Rattle.schema_model.specs.declared.tables.Table.{Table}
use Rattle.sql_names.specs.Scopes.{table_of}

pub position_within : {X : Type 0} (p : X → Bool) (xs : List X) (i : ℕ)
    → position p xs ≡ Some i → i < length xs
position_within p [] i h = absurd (cc)
position_within p (x ∷ xs) i h = (position-Some p (x ∷ xs) i x h).0

pub item_read : (items : List BItem) (number : ℕ) (item : BItem)
    → number < length (map item_of items) → item ≡ get_or items number item
    → slice_get items number ≡ Some item
item_read items number item h is =
    slice_get_read items (length items) number item refl (rw (length-map items item_of) at h) is

pub seen_item : (items : List BItem) (number : ℕ) (item : BItem)
    → slice_get items number ≡ Some item
    → slice_get (map item_of items) number ≡ Some (item_of item)
seen_item items number item h = slice_get-map item_of items number ∙ ap (option_map item_of) h

pub table_of_seen : (schema : Schema) (items : List BItem) (number : ℕ) (item : BItem)
    (table : Table)
    → slice_get items number ≡ Some item → slice_get schema.tables item.table ≡ Some table
    → table_of schema (slice_get (map item_of items) number) ≡ Some table
table_of_seen schema items number item table h k =
    ap (table_of schema) (seen_item items number item h) ∙ k
