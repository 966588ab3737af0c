-- No comma in parentheses that aren't the list of an IN.
use Rattle.std.proofs.Common.{◌≡◌, Bool, true, false, ◌&&◌, List, [], ◌∷◌, map, refl, ap, ◌∙◌}
use Rattle.std.proofs.Common.{length, nat_le}
use Rattle.sql_value.specs.declared.keywords.Keyword.{Keyword}
use Rattle.sql_value.specs.declared.keywords.Keyword.TheVariants as keyword
use Rattle.sql_value.specs.Reserved.{is_reserved_word}
use Rattle.sql_tokens.specs.declared.symbols.Symbol.{Symbol}
use Rattle.sql_tokens.specs.declared.symbols.Symbol.TheVariants as symbol
use Rattle.sql_tokens.specs.declared.terminal.Terminal.{Terminal}
use Rattle.sql_tokens.specs.declared.terminal.Terminal.TheVariants as terminal
use Rattle.sql_lex.specs.Looks.{is_keyword, is_symbol}
use Rattle.sql_lex.specs.Rows.{State, step_of, any_from, has_row_value}
use Rattle.sql_lexemes.specs.TokenLexemes.{keyword_mark, symbol_mark}
use Rattle.grammar_laws.proofs.Scan.{Class, Kind, Phase, may_come, phase_behind, stack_behind}
use Rattle.grammar_laws.proofs.Scan.{is_after_in}
use Rattle.grammar_laws.proofs.Scan.{mark_class, keyword_class, symbol_class, terminal_class}
use Rattle.grammar_laws.proofs.Scan as scan
use Rattle.grammar_laws.proofs.Places.{Taken}

-- a terminal that is to the parentheses what each of this class is
abbrev sample : Class → Terminal
sample scan.Open = terminal.Symbol symbol.OpenParenthesis
sample scan.Close = terminal.Symbol symbol.CloseParenthesis
sample scan.Comma = terminal.Symbol symbol.Comma
sample scan.In = terminal.Keyword keyword.In
sample _ = terminal.Bad

keyword_step : (k : Keyword) → step_of (terminal.Keyword k) ≡ step_of (sample (keyword_class k))
unfolding step_of is_keyword is_symbol is_reserved_word keyword_class keyword_mark mark_class
keyword_step keyword.In = refl
keyword_step _ = refl

symbol_step : (s : Symbol) → step_of (terminal.Symbol s) ≡ step_of (sample (symbol_class s))
unfolding step_of is_keyword is_symbol symbol_class symbol_mark mark_class
symbol_step symbol.Comma = refl
symbol_step _ = refl

same_step : (t : Terminal) → step_of t ≡ step_of (sample (terminal_class t))
unfolding terminal_class step_of is_keyword is_symbol
same_step (terminal.Keyword k) = keyword_step k
same_step (terminal.Symbol s) = symbol_step s
same_step _ = refl

abbrev state_of : List Bool → Bool → State
state_of bs after = record { stack = bs; after = after }

not_in_behind_name : (p : Phase) → is_after_in (scan.behind_name p) ≡ false
not_in_behind_name scan.Fresh = refl
not_in_behind_name _ = refl

not_in_behind_not : (p : Phase) → is_after_in (scan.behind_not p) ≡ false
not_in_behind_not scan.AfterIs = refl
not_in_behind_not _ = refl

comma_placed :
    (k : Kind) (p : Phase) (bs : List Bool) → may_come k p (false ∷ bs) scan.Comma ≡ true → ⊥
unfolding may_come
comma_placed scan.Query scan.Begin bs e = cc
comma_placed scan.Change scan.Begin bs e = cc
comma_placed scan.Removal scan.Begin bs e = cc
comma_placed k _ bs e = cc

and_false : (a : Bool) → (a && false) ≡ false
and_false true = refl
and_false false = refl

-- one more terminal
stepped :
    (k : Kind) (p : Phase) (bs : List Bool) (c : Class) (ts : List Terminal)
    → may_come k p bs c ≡ true
    → any_from 0 (state_of (stack_behind p c bs) (is_after_in (phase_behind p c))) (map step_of ts)
    ≡ false
    → any_from 0 (state_of bs (is_after_in p)) (step_of (sample c) ∷ map step_of ts) ≡ false
unfolding any_from step_of is_keyword is_symbol phase_behind stack_behind
stepped k p bs scan.Name ts m h = rw (not_in_behind_name p) at h
stepped k p bs scan.Not ts m h = rw (not_in_behind_not p) at h
stepped k p [] scan.Close ts m h = h
stepped k p (b ∷ bs) scan.Close ts m h = h
stepped k p [] scan.Comma ts m h = h
stepped k p (true ∷ bs) scan.Comma ts m h = rw (and_false (nat_le 0 (length bs))) h
stepped k p (false ∷ bs) scan.Comma ts m h = absurd (comma_placed k p bs m)
stepped k p bs _ ts m h = h

rows :
    (k : Kind) (p : Phase) (bs : List Bool) (ts : List Terminal) → Taken k p bs ts
    → any_from 0 (state_of bs (is_after_in p)) (map step_of ts) ≡ false
unfolding any_from
rows k p bs [] h = refl
rows k p bs (t ∷ ts) h =
    let c = terminal_class t in
    ap (λ s. any_from 0 (state_of bs (is_after_in p)) (s ∷ map step_of ts)) (same_step t)
    ∙ stepped k p bs c ts h.0 (rows k (phase_behind p c) (stack_behind p c bs) ts h.1)

pub no_row_value :
    (k : Kind) (ts : List Terminal) → Taken k scan.Begin [] ts → has_row_value ts ≡ false
unfolding has_row_value
no_row_value k ts h = rows k scan.Begin [] ts h
