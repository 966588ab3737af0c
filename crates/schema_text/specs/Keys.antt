-- PRIMARY KEY and UNIQUE, of a column or of a table.
use Rattle.std.specs.Prelude.{ℕ, ◌+◌, ◌==◌, ◌&&◌, Bool, true, false, cond, codes, List, [], ◌∷◌}
use Rattle.std.specs.Prelude.{◌++◌, Option, None, Some, option_map, option_and_then}
use Rattle.sql_value.specs.declared.keywords.Keyword.{Keyword}
use Rattle.sql_value.specs.declared.keywords.Keyword.TheVariants as keyword
use Rattle.sql_tokens.specs.Terminals.{terminal_of}
use Rattle.sql_tokens.specs.declared.terminal.Terminal.{Terminal}
use Rattle.sql_tokens.specs.declared.terminal.Terminal.TheVariants as terminal
use Rattle.sql_tokens.specs.declared.token.Token.{Token}
use Rattle.schema_model.specs.declared.columns.Column.{Column}
use Rattle.schema_text.specs.Words.{is_word, is_name}
use Rattle.schema_text.specs.Cursor.{after_word}
use Rattle.schema_text.specs.Groups.{next_level, first_enclosed, parts_of}
use Rattle.schema_text.specs.ColumnTexts.{column_rest}
use Rattle.schema_text.specs.Entries.{begins_desc, entries_of, key_columns}
use Rattle.schema_text.specs.declared.entries.EntryText.{EntryText}
use Rattle.schema_text.specs.declared.keys.KeyConstraint.{KeyConstraint}
use Rattle.schema_text.specs.declared.keys.KeyMark.{KeyMark}
use Rattle.schema_text.specs.declared.keys.KeyList as code

abbrev pub primary_mark : List ℕ → List Token → Option KeyMark
primary_mark text ts = option_and_then (λ rest. Some
    (record { primary = true; desc = begins_desc text rest })) (after_word text (codes "key") ts)

-- PRIMARY KEY, with DESC or not, or UNIQUE
abbrev pub key_mark : List ℕ → List Token → Option KeyMark
key_mark text [] = None
key_mark text (t ∷ ts) =
    cond (is_word text (codes "primary") t) (primary_mark text ts) (
    cond (is_word text (codes "unique") t) (Some (record { primary = false; desc = false })) None)

abbrev pub marked_key : ℕ → Option KeyMark → List KeyConstraint
marked_key number None = []
marked_key number (Some mark) =
    record {
      primary = mark.primary;
      own = true;
      columns = record { column = number; coll = None; desc = mark.desc } ∷ [];
    } ∷ []

abbrev pub own_key : List ℕ → ℕ → ℕ → List Token → List KeyConstraint
own_key text number level ts = cond (level == 0) (marked_key number (key_mark text ts)) []

-- the keys that stand behind a column's type, outside parentheses, of which so many are open
abbrev pub own_keys : List ℕ → ℕ → ℕ → List Token → List KeyConstraint
own_keys text number level [] = []
own_keys text number level (t ∷ ts) =
    own_key text number level (t ∷ ts) ++ own_keys text number (next_level text level t) ts

abbrev pub is_constraint_word : Keyword → Bool
is_constraint_word keyword.Constraint = true
is_constraint_word keyword.Primary = true
is_constraint_word keyword.Unique = true
is_constraint_word keyword.Check = true
is_constraint_word keyword.Foreign = true
is_constraint_word _ = false

abbrev pub is_constraint_terminal : Terminal → Bool
is_constraint_terminal (terminal.Keyword k) = is_constraint_word k
is_constraint_terminal _ = false

-- an item that is a constraint of the table, and no column
abbrev pub is_constraint : List ℕ → List Token → Bool
is_constraint text [] = false
is_constraint text (t ∷ ts) = is_constraint_terminal (terminal_of text t)

abbrev pub past_constraint_name : List ℕ → List Token → List Token
past_constraint_name text (a ∷ b ∷ ts) = cond (is_word text (codes "constraint") a && is_name b) ts
    (a ∷ b ∷ ts)
past_constraint_name text ts = ts

pub record KeyList : Type 0 where
  pub primary : Bool
  pub list : List Token

abbrev pub seen_key_list : code.KeyList → KeyList
seen_key_list k = record { primary = k.primary; list = k.list.now }

abbrev pub after_primary_key : List ℕ → List Token → Option (List Token)
after_primary_key text ts = option_and_then (λ rest. after_word text (codes "key") rest)
    (after_word text (codes "primary") ts)

abbrev pub list_behind : List ℕ → Bool → List Token → Option KeyList
list_behind text primary ts =
    option_and_then (λ enclosed. Some (record { primary = primary; list = enclosed.inside }))
    (first_enclosed text ts)

abbrev pub key_list_after : List ℕ → List Token → Option (List Token) → Option KeyList
key_list_after text ts (Some rest) = list_behind text true rest
key_list_after text ts None = option_and_then (λ rest. list_behind text false rest)
    (after_word text (codes "unique") ts)

-- PRIMARY KEY or UNIQUE, and its list
abbrev pub key_list : List ℕ → List Token → Option KeyList
key_list text ts = key_list_after text ts (after_primary_key text ts)

abbrev pub keys_of_entries : List ℕ → List Column → Bool → Option (List EntryText)
    → Option (List KeyConstraint)
keys_of_entries text columns primary None = Some []
keys_of_entries text columns primary (Some entries) =
    option_map (λ found. record { primary = primary; own = false; columns = found } ∷ [])
    (key_columns text columns entries)

abbrev pub keys_of_list : List ℕ → List Column → Option KeyList → Option (List KeyConstraint)
keys_of_list text columns None = Some []
keys_of_list text columns (Some front) =
    keys_of_entries text columns front.primary
    (entries_of text front.primary (parts_of text front.list))

-- the key of a table's constraint, if it counts; nothing where a column or a collation isn't known
abbrev pub table_keys : List ℕ → List Column → List Token → Option (List KeyConstraint)
table_keys text columns item = keys_of_list text columns
    (key_list text (past_constraint_name text item))

abbrev pub behind_name : List Token → List Token
behind_name [] = []
behind_name (t ∷ ts) = ts

abbrev pub item_keys : List ℕ → List Column → ℕ → List Token → Option (List KeyConstraint)
item_keys text columns number item =
    cond (is_constraint text item) (table_keys text columns item)
    (Some (own_keys text number 0 (column_rest text (behind_name item))))

abbrev pub next_number : List ℕ → ℕ → List Token → ℕ
next_number text number item = cond (is_constraint text item) number (number + 1)

-- the keys of the items in order; nothing where a column or a collation isn't known
abbrev pub key_constraints_of : List ℕ → List Column → ℕ → List (List Token)
    → Option (List KeyConstraint)
key_constraints_of text columns number [] = Some []
key_constraints_of text columns number (item ∷ items) =
    option_and_then (λ added. option_map (λ rest. added ++ rest)
    (key_constraints_of text columns (next_number text number item) items))
    (item_keys text columns number item)
