-- Entries of the lists of columns in keys and indexes.
use Rattle.std.specs.Prelude.{ℕ, ◌&&◌, Bool, true, false, cond, codes, List, [], ◌∷◌, position}
use Rattle.std.specs.Prelude.{Option, None, Some, is_some, unwrap_or, option_map, option_and_then}
use Rattle.std.specs.Prelude.{if◌then◌else◌}
use Rattle.sql_meaning.specs.Letters.{folded_bytes}
use Rattle.sql_value.specs.declared.values.Collation.{Collation}
use Rattle.sql_tokens.specs.TokenValues.{value_of}
use Rattle.sql_tokens.specs.declared.token.Token.{Token}
use Rattle.schema_model.specs.Columns.{has_column_name}
use Rattle.schema_model.specs.declared.columns.Column.{Column}
use Rattle.schema_text.specs.Lists.{with_first, traverse}
use Rattle.schema_text.specs.Cursor.{NameAndRest, after_word, past_word, first_name}
use Rattle.schema_text.specs.ColumnTexts.{collation_here, collation_at}
use Rattle.schema_text.specs.declared.entries.EntryText.{EntryText}
use Rattle.schema_text.specs.declared.entries.KeyColumn.{KeyColumn}

abbrev pub past_collation : List ℕ → List Token → List Token
past_collation text (a ∷ b ∷ ts) = cond (is_some (collation_here text (a ∷ b ∷ ts))) ts (a ∷ b ∷ ts)
past_collation text ts = ts

abbrev pub begins_desc : List ℕ → List Token → Bool
begins_desc text ts = is_some (after_word text (codes "desc") ts)

abbrev pub past_direction : List ℕ → List Token → List Token
past_direction text ts = unwrap_or (after_word text (codes "asc") ts)
    (past_word text (codes "desc") ts)

abbrev pub past_autoincrement : List ℕ → Bool → List Token → List Token
past_autoincrement text may ts = if may then past_word text (codes "autoincrement") ts else ts

abbrev pub entry_unless : EntryText → List Token → Option EntryText
entry_unless entry [] = Some entry
entry_unless entry (t ∷ ts) = None

abbrev pub entry_after : List ℕ → Bool → NameAndRest → Option EntryText
entry_after text may named =
    entry_unless (record {
      name = named.name;
      coll = collation_here text named.rest;
      desc = begins_desc text (past_collation text named.rest);
    })
    (past_autoincrement text may (past_direction text (past_collation text named.rest)))

-- a name, COLLATE and a name or not, ASC or DESC or neither, and AUTOINCREMENT where it may stand
abbrev pub entry_of : List ℕ → Bool → List Token → Option EntryText
entry_of text may part = option_and_then (λ named. entry_after text may named) (first_name part)

abbrev pub entry_collation : List ℕ → Option Token → Option (Option Collation)
entry_collation text None = Some None
entry_collation text (Some t) = option_map (λ coll. Some coll) (collation_at text t)

-- the column of an entry, where it and its collation are known
abbrev pub key_column : List ℕ → List Column → EntryText → Option KeyColumn
key_column text columns entry =
    option_and_then (λ number. option_map
    (λ coll. record { column = number; coll = coll; desc = entry.desc })
    (entry_collation text entry.coll)) (position
    (has_column_name (folded_bytes (value_of text entry.name))) columns)

abbrev pub is_last : List (List Token) → Bool
is_last [] = true
is_last _ = false

-- all entries; AUTOINCREMENT may stand in the last one, where it may stand at all
abbrev pub entries_of : List ℕ → Bool → List (List Token) → Option (List EntryText)
entries_of text may [] = Some []
entries_of text may (part ∷ parts) = with_first (entry_of text (may && is_last parts) part)
    (entries_of text may parts)

abbrev pub key_columns : List ℕ → List Column → List EntryText → Option (List KeyColumn)
key_columns text columns entries = traverse (key_column text columns) entries
