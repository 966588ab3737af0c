-- The fronts of CREATE statements.
use Rattle.std.specs.Prelude.{ℕ, Bool, true, false, codes, List, [], ◌∷◌, Option, None, Some}
use Rattle.std.specs.Prelude.{option_and_then, option_map}
use Rattle.sql_tokens.specs.declared.token.Token.{Token}
use Rattle.schema_text.specs.Cursor.{NameAndRest, after_word, past_temporary, past_if_not_exists}
use Rattle.schema_text.specs.Cursor.{first_name, qualified_name}
use Rattle.schema_text.specs.Groups.{first_enclosed}
use Rattle.schema_text.specs.declared.heads.IndexHead as code

abbrev pub or_else : {X : Type 0} → Option X → Option X → Option X
or_else None other = other
or_else (Some x) other = Some x

-- CREATE, TEMP or TEMPORARY or neither, TABLE, IF NOT EXISTS or not, and the name
abbrev pub create_table_head : List ℕ → List Token → Option NameAndRest
create_table_head text ts =
    option_and_then (λ a. option_and_then (λ b. qualified_name text (past_if_not_exists text b))
    (after_word text (codes "table") (past_temporary text a))) (after_word text (codes "create") ts)

abbrev pub after_virtual_table : List ℕ → List Token → Option (List Token)
after_virtual_table text ts = option_and_then (λ a. after_word text (codes "table") a)
    (after_word text (codes "virtual") ts)

abbrev pub after_unread_kind : List ℕ → List Token → Option (List Token)
after_unread_kind text ts =
    or_else (after_virtual_table text ts) (after_word text (codes "view") (past_temporary text ts))

-- CREATE, VIRTUAL TABLE or VIEW, IF NOT EXISTS or not, and the name
abbrev pub create_unread_head : List ℕ → List Token → Option NameAndRest
create_unread_head text ts =
    option_and_then (λ a. option_and_then (λ b. qualified_name text (past_if_not_exists text b))
    (after_unread_kind text a)) (after_word text (codes "create") ts)

pub record IndexHead : Type 0 where
  pub unique : Bool
  pub name : Token
  pub table : Token
  pub list : List Token
  pub partial : Bool

abbrev pub seen_index_head : code.IndexHead → IndexHead
seen_index_head head =
    record {
      unique = head.unique;
      name = head.name;
      table = head.table;
      list = head.list.now;
      partial = head.partial;
    }

-- WHERE, or nothing, behind the list
abbrev pub is_partial : List ℕ → List Token → Option Bool
is_partial text [] = Some false
is_partial text (t ∷ ts) = option_map (λ rest. true) (after_word text (codes "where") (t ∷ ts))

-- INDEX, IF NOT EXISTS or not, the name, ON, the table, the list in parentheses, and WHERE or
-- nothing
abbrev pub index_head : List ℕ → Bool → List Token → Option IndexHead
index_head text unique ts =
    option_and_then (λ a. option_and_then (λ index. option_and_then (λ b. option_and_then (λ table.
    option_and_then (λ list. option_and_then (λ partial.
    Some (record {
      unique = unique;
      name = index.name;
      table = table.name;
      list = list.inside;
      partial = partial;
    }))
    (is_partial text list.rest)) (first_enclosed text table.rest)) (first_name b))
    (after_word text (codes "on") index.rest)) (qualified_name text (past_if_not_exists text a)))
    (after_word text (codes "index") ts)

abbrev pub unique_or : List ℕ → List Token → Option (List Token) → Option IndexHead
unique_or text ts None = index_head text false ts
unique_or text ts (Some rest) = index_head text true rest

abbrev pub create_index_head : List ℕ → List Token → Option IndexHead
create_index_head text ts =
    option_and_then (λ a. unique_or text a (after_word text (codes "unique") a))
    (after_word text (codes "create") ts)
