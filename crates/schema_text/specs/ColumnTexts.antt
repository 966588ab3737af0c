-- Columns of CREATE TABLE.
use Rattle.std.specs.Prelude.{ℕ, ◌+◌, ◌-◌, ◌==◌, ◌&&◌, ◌||◌, Bool, true, false, cond, codes, List}
use Rattle.std.specs.Prelude.{[], ◌∷◌, length, take, drop, slice_get, Option, None, Some}
use Rattle.std.specs.Prelude.{option_map, option_and_then}
use Rattle.sql_meaning.specs.DeclaredTypes.{affinity_of}
use Rattle.sql_meaning.specs.Values as plain
use Rattle.sql_value.specs.Collations.{collation_named}
use Rattle.sql_value.specs.declared.keywords.Keyword.{Keyword}
use Rattle.sql_value.specs.declared.keywords.Keyword.TheVariants as keyword
use Rattle.sql_value.specs.declared.values.Affinity.{Affinity}
use Rattle.sql_value.specs.declared.values.Affinity.TheVariants as affinity
use Rattle.sql_value.specs.declared.values.Collation.{Collation}
use Rattle.sql_value.specs.declared.values.Collation.TheVariants.{Binary}
use Rattle.sql_tokens.specs.Terminals.{text_of, terminal_of}
use Rattle.sql_tokens.specs.TokenValues.{value_of}
use Rattle.sql_tokens.specs.declared.terminal.Terminal.{Terminal}
use Rattle.sql_tokens.specs.declared.terminal.Terminal.TheVariants as terminal
use Rattle.sql_tokens.specs.declared.token.Token.{Token}
use Rattle.schema_model.specs.declared.columns.Column.{Column}
use Rattle.schema_text.specs.Words.{is_word, is_name}
use Rattle.schema_text.specs.Groups.{next_level}
use Rattle.schema_text.specs.Cursor.{NameAndRest, first_name}
use Rattle.schema_text.specs.Heads.{or_else}

abbrev pub is_rest_word : Keyword → Bool
is_rest_word keyword.Constraint = true
is_rest_word keyword.Primary = true
is_rest_word keyword.Not = true
is_rest_word keyword.Null = true
is_rest_word keyword.Unique = true
is_rest_word keyword.Check = true
is_rest_word keyword.Default = true
is_rest_word keyword.Collate = true
is_rest_word keyword.References = true
is_rest_word keyword.Generated = true
is_rest_word keyword.As = true
is_rest_word _ = false

abbrev pub is_rest_terminal : Terminal → Bool
is_rest_terminal (terminal.Keyword k) = is_rest_word k
is_rest_terminal _ = false

-- the type of a column ends before this token
abbrev pub begins_rest : List ℕ → Token → Bool
begins_rest text t = is_rest_terminal (terminal_of text t)

-- how many tokens the type has, where so many parentheses are open
abbrev pub type_len : List ℕ → ℕ → List Token → ℕ
type_len text level [] = 0
type_len text level (t ∷ ts) =
    cond (level == 0 && begins_rest text t) 0 (1 + type_len text (next_level text level t) ts)

abbrev pub text_between : List ℕ → Option Token → Option Token → List ℕ
text_between text (Some first) (Some last) =
    text_of text (record { kind = first.kind; start = first.start; end = last.end })
text_between text _ _ = []

-- the bytes from the first to the last token
abbrev pub text_of_all : List ℕ → List Token → List ℕ
text_of_all text ts = text_between text (slice_get ts 0) (slice_get ts (length ts - 1))

abbrev pub declared_type : List ℕ → List Token → List ℕ
declared_type text ts = text_of_all text (take (type_len text 0 ts) ts)

abbrev pub column_rest : List ℕ → List Token → List Token
column_rest text ts = drop (type_len text 0 ts) ts

abbrev pub is_generated_word : List ℕ → Token → Bool
is_generated_word text t = is_word text (codes "generated") t || is_word text (codes "as") t

-- GENERATED or AS outside parentheses
abbrev pub is_generated : List ℕ → ℕ → List Token → Bool
is_generated text level [] = false
is_generated text level (t ∷ ts) =
    (level == 0 && is_generated_word text t) || is_generated text (next_level text level t) ts

-- the name behind COLLATE
abbrev pub collation_here : List ℕ → List Token → Option Token
collation_here text (a ∷ b ∷ ts) = cond (is_word text (codes "collate") a && is_name b)
    (Some b) None
collation_here text _ = None

abbrev pub at_top : {X : Type 0} → ℕ → Option X → Option X
at_top level o = cond (level == 0) o None

-- the name behind the last COLLATE outside parentheses
abbrev pub last_collation : List ℕ → ℕ → List Token → Option Token
last_collation text level [] = None
last_collation text level (t ∷ ts) =
    or_else (last_collation text (next_level text level t) ts)
    (at_top level (collation_here text (t ∷ ts)))

abbrev pub collation_at : List ℕ → Token → Option Collation
collation_at text t = collation_named (value_of text t)

abbrev pub collation_or_binary : List ℕ → Option Token → Option Collation
collation_or_binary text None = Some Binary
collation_or_binary text (Some t) = collation_at text t

abbrev pub column_collation : List ℕ → List Token → Option Collation
column_collation text ts = collation_or_binary text (last_collation text 0 ts)

abbrev pub coded_affinity : plain.Affinity → Affinity
coded_affinity plain.Integer = affinity.Integer
coded_affinity plain.Real = affinity.Real
coded_affinity plain.Numeric = affinity.Numeric
coded_affinity plain.TextAffinity = affinity.Text
coded_affinity plain.BlobAffinity = affinity.Blob

abbrev pub declared_affinity : List ℕ → Affinity
declared_affinity declared = coded_affinity (affinity_of declared)

-- a column by its name and what stands behind it
abbrev pub column_after : List ℕ → NameAndRest → Option Column
column_after text named =
    cond (is_generated text 0 (column_rest text named.rest)) None (
    option_map (λ coll. record {
      name = value_of text named.name;
      affinity = declared_affinity (declared_type text named.rest);
      coll = coll;
    })
    (column_collation text (column_rest text named.rest)))

abbrev pub column_of : List ℕ → List Token → Option Column
column_of text item = option_and_then (λ named. column_after text named) (first_name item)
