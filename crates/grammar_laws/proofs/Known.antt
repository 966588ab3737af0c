-- A statement that the grammar spells has no construct that isn't read.
use Rattle.std.proofs.Common.{◌≡◌, ℕ, Bool, true, false, None, Some, List, [], ◌∷◌, map, refl}
use Rattle.std.specs.List.{find}
use Rattle.sql_tokens.specs.declared.terminal.Terminal.{Terminal}
use Rattle.sql_tokens.specs.declared.token.Token.{Token}
use Rattle.sql_tokens.specs.Terminals.{terminal_of}
use Rattle.sql_tree.specs.Statements.{StatementTree}
use Rattle.sql_lex.specs.Constructs.{constructs, has_construct, first_foreign}
use Rattle.sql_lex.specs.Patterns.{fits, lacks_from}
use Rattle.sql_lex.specs.declared.constructs.Foreign.{Foreign}
use Rattle.sql_lex.specs.declared.constructs.Foreign.TheVariants as foreign
use Rattle.sql_lexemes.specs.Parameters.{no_parameters}
use Rattle.sql_parse.specs.Statements.{IsSpelled}
use Rattle.sql_lexemes.specs.TokenLexemes.{lexemes_of}
use Rattle.grammar_laws.proofs.Scan.{Kind, begins, may_come, terminal_class}
use Rattle.grammar_laws.proofs.Scan as scan
use Rattle.grammar_laws.proofs.Statements.{statement}
use Rattle.grammar_laws.proofs.Terminals.{of_tokens}
use Rattle.grammar_laws.proofs.Places.{Never, Taken, nowhere, false_true}
use Rattle.grammar_laws.proofs.Beginnings.{no_insert, no_with, no_values, no_other_statement}
use Rattle.grammar_laws.proofs.Beginnings.{no_update_from, no_update_or, no_limit_on_change}
use Rattle.grammar_laws.proofs.OtherWords.{no_other_word}
use Rattle.grammar_laws.proofs.Neighbours.{no_subquery, no_window_function, no_cast, no_function}
use Rattle.grammar_laws.proofs.Neighbours.{no_distinct, no_is}
use Rattle.grammar_laws.proofs.Operators.{no_arithmetic}
use Rattle.grammar_laws.proofs.Sources.{no_parenthesized_join, no_qualified_table}
use Rattle.grammar_laws.proofs.Rows.{no_row_value}
use Rattle.grammar_laws.proofs.Froms.{no_query_without_from}

-- each construct that stands at a place stands at none of a statement that begins so
never :
    (k : Kind) (u : Terminal) → begins k (terminal_class u) ≡ true → (f : Foreign)
    → Never k (Some u) f
unfolding fits
never k u h foreign.Insert = no_insert k u h
never k u h foreign.With = no_with k u h
never k u h foreign.Values = no_values k u h
never k u h foreign.OtherStatement = no_other_statement k u h
never k u h foreign.Subquery = no_subquery k (Some u)
never k u h foreign.WindowFunction = no_window_function k (Some u)
never k u h foreign.Cast = no_cast k (Some u)
never k u h foreign.Function = no_function k (Some u)
never k u h foreign.Distinct = no_distinct k (Some u)
never k u h foreign.Is = no_is k (Some u)
never k u h foreign.Arithmetic = no_arithmetic k (Some u)
never k u h foreign.ParenthesizedJoin = no_parenthesized_join k (Some u)
never k u h foreign.UpdateFrom = no_update_from k u h
never k u h foreign.UpdateOr = no_update_or k (Some u)
never k u h foreign.LimitOnChange = no_limit_on_change k u h
never k u h foreign.QualifiedTable = no_qualified_table k (Some u)
never k u h foreign.RowValue = λ p bs before t ts b taken e. false_true e
never k u h foreign.SelectWithoutFrom = λ p bs before t ts b taken e. false_true e
never k u h f = no_other_word k (Some u) f refl

not_ended : scan.Behind scan.Begin → ⊥
not_ended b = elim b [ ]

has_none :
    (k : Kind) (ts : List Terminal) → Taken k scan.Begin [] ts → lacks_from ts ≡ false
    → (f : Foreign) → has_construct ts f ≡ false
unfolding may_come
has_none k [] h from f = absurd (not_ended h)
has_none k (u ∷ us) h from foreign.RowValue = no_row_value k (u ∷ us) h
has_none k (u ∷ us) h from foreign.SelectWithoutFrom = from
has_none k (u ∷ us) h from f = nowhere k (Some u) (fits f) (never k u h.0 f) (u ∷ us) h

none_found :
    (test : Foreign → Bool) → ((f : Foreign) → test f ≡ false) → (fs : List Foreign)
    → find test fs ≡ None
none_found test fails [] = refl
none_found test fails (f ∷ fs) = rw (fails f) (none_found test fails fs)

-- no statement that the grammar spells has a construct that isn't read
pub known :
    (text : List ℕ) (tokens : List Token) (tree : StatementTree)
    → IsSpelled (lexemes_of text tokens) tree
    → first_foreign text tokens ≡ None
unfolding first_foreign
known text tokens tree spelled =
    let w = statement spelled in
    let ts = map (terminal_of text) tokens in
    let taken = of_tokens text no_parameters tokens w.0 scan.Begin [] w.1 in
    none_found (has_construct ts)
    (has_none w.0 ts taken (no_query_without_from text no_parameters tokens tree spelled))
    constructs
