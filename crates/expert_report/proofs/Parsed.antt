-- What the parser answers of a statement, and how the statement is read then.
use Rattle.std.proofs.Common.{◌≡◌, ◌<◌, ◌⊎◌, ℕ, List, Option, None, Some, Result, Ok, Err, refl}
use Rattle.std.proofs.Common.{inl, inr, arith, length, false}
use Rattle.sql_tokens.specs.declared.token.Token.{Token}
use Rattle.sql_tree.specs.Statements.{StatementTree, SourceTree}
use Rattle.sql_read.specs.Lexemes.{Lexeme}
use Rattle.sql_read.specs.Statements.{whole_at}
use Rattle.sql_parse.specs.declared.refusals.ParseFault.{ParseFault}
use Rattle.sql_parse.specs.declared.refusals.ParseFault.TheVariants.{Syntax, Memory}
use Rattle.sql_parse.specs.Refusals.{first_refusal}
use Rattle.sql_parse.specs.Statements.{IsSpelled, select, update, delete, Sources, sources, table}
use Rattle.sql_lexemes.specs.TokenLexemes.{lexemes_of}
use Rattle.schema_model.specs.Schemas.{Schema}
use Rattle.sql_bind.specs.Clauses.{sources_of}
use Rattle.sql_bind.specs.Sources.{begins_left}
use Rattle.expert_report.specs.Faults.{parse_text}
use Rattle.expert_report.specs.Readings.{RefusedFor, run_reading, tree_reading, reading_of}

-- a statement that is spelled has a table
some_source : {ts : List Lexeme} {ss : List SourceTree} → Sources ts ss → 0 < length ss
some_source (sources first rest whole) = omega arith

pub has_source : {ts : List Lexeme} {t : StatementTree} → IsSpelled ts t → 0 < length (sources_of t)
has_source (select every items from filter keys cuts whole) = some_source from
has_source (update one sets filter whole) = omega arith
has_source (delete one filter whole) = omega arith

-- LEFT JOIN doesn't stand before the first table
not_left : {ts : List Lexeme} {ss : List SourceTree} → Sources ts ss → begins_left ss ≡ false
not_left (sources (table t d alias) rest whole) = refl

pub first_is_not_left : {ts : List Lexeme} {t : StatementTree} → IsSpelled ts t
    → begins_left (sources_of t) ≡ false
first_is_not_left (select every items from filter keys cuts whole) = not_left from
first_is_not_left (update (table t d alias) sets filter whole) = refl
first_is_not_left (delete (table t d alias) filter whole) = refl

-- a statement that is read meets no refusal
pub passed : {S : Type 0} (first : Option ParseFault) (s : S)
    → ((fault : ParseFault) → first ≡ Some fault → ◌≡◌ {A = Result S ParseFault} (Ok s) (Err fault))
    → first ≡ None
passed None s h = refl
passed (Some fault) s h = let wrong = h fault refl in cc

pub read_tree : (schema : Schema) (text : List ℕ) (tokens : List Token) (t : StatementTree)
    → first_refusal text tokens ≡ None → whole_at (lexemes_of text tokens) ≡ Some t
    → reading_of schema text tokens ≡ tree_reading schema (Some t)
read_tree schema text tokens t none read = rw (none, read) refl

-- a statement that isn't read is refused by that fault
pub refused_by : {S : Type 0} (schema : Schema) (text : List ℕ)
    (tokens : List Token) (first : Option ParseFault) (fault : ParseFault)
    → ((t : StatementTree) → whole_at (lexemes_of text tokens) ≡ Some t
    → IsSpelled (lexemes_of text tokens) t)
    → (fault ≡ Memory → ⊥)
    → ((f : ParseFault) → first ≡ Some f → ◌≡◌ {A = Result S ParseFault} (Err fault) (Err f))
    → (first ≡ None → (fault ≡ Syntax) ⊎ (fault ≡ Memory))
    → (first ≡ None → (t : StatementTree) → IsSpelled (lexemes_of text tokens) t → fault ≡ Memory)
    → run_reading schema text tokens first ≡ RefusedFor (parse_text fault)
refused_by schema text tokens (Some f) fault read other refused otherwise only =
    let same = refused f refl in cc
refused_by schema text tokens None fault read other refused otherwise only =
    syntax (whole_at (lexemes_of text tokens)) (λ t e. only refl t (read t e)) (otherwise refl)
  where
    syntax : (tree : Option StatementTree)
        → ((t : StatementTree) → tree ≡ Some t → fault ≡ Memory)
        → (fault ≡ Syntax) ⊎ (fault ≡ Memory)
        → tree_reading schema tree ≡ RefusedFor (parse_text fault)
    syntax None spelled (inl is) = rw is refl
    syntax (Some t) spelled (inl is) = absurd (other (spelled t refl))
    syntax tree spelled (inr is) = absurd (other is)
