-- Patterns that see what a statement begins with.
use Rattle.std.proofs.Common.{◌≡◌, Bool, true, false, ◌&&◌, inl, inr, Option, Some, List, [], ◌∷◌}
use Rattle.std.proofs.Common.{refl, subst}
use Rattle.std.specs.Prelude.{is_none}
use Rattle.sql_value.specs.declared.keywords.Keyword.{Keyword}
use Rattle.sql_value.specs.declared.keywords.Keyword.TheVariants as keyword
use Rattle.sql_value.specs.Reserved.{is_reserved_word}
use Rattle.sql_tokens.specs.declared.terminal.Terminal.{Terminal}
use Rattle.sql_lex.specs.Looks.{is_keyword, is_keyword_among}
use Rattle.sql_lex.specs.Patterns.{fits, fits_other_statement}
use Rattle.sql_lex.specs.declared.constructs.Foreign.TheVariants as foreign
use Rattle.sql_lexemes.specs.TokenLexemes.{keyword_mark}
use Rattle.grammar_laws.proofs.Scan.{Class, Kind, Phase, may_come, phase_behind, begins}
use Rattle.grammar_laws.proofs.Scan.{mark_class, keyword_class, terminal_class}
use Rattle.grammar_laws.proofs.Scan as scan
use Rattle.grammar_laws.proofs.Terminals.{keyword_is}
use Rattle.grammar_laws.proofs.Places.{Never, either, both, second_false, comes, seen, among_is}

-- no statement begins so
abbrev begins_none : Class → Bool
begins_none scan.Select = false
begins_none scan.Update = false
begins_none scan.Delete = false
begins_none _ = true

not_first : (k : Kind) (c : Class) → begins_none c ≡ true → begins k c ≡ true → ⊥
not_first scan.Query scan.Select n e = cc
not_first scan.Query _ n e = cc
not_first scan.Change scan.Update n e = cc
not_first scan.Change _ n e = cc
not_first scan.Removal scan.Delete n e = cc
not_first scan.Removal _ n e = cc

abbrev all_begin_none : List Keyword → Bool
all_begin_none [] = true
all_begin_none (w ∷ ws) = begins_none (keyword_class w) && all_begin_none ws

none_first :
    (k : Kind) (u : Terminal) (ws : List Keyword) → begins k (terminal_class u) ≡ true
    → all_begin_none ws ≡ true
    → is_keyword_among ws (Some u) ≡ true → ⊥
none_first k u [] h none e = cc
none_first k u (w ∷ ws) h none e =
    let begin = both (begins_none (keyword_class w)) (all_begin_none ws) none in
    elim (either (is_keyword w (Some u)) _ e) [
      | inl one ↦
          not_first k (keyword_class w) begin.0
          (subst (λ c. begins k c ≡ true) (keyword_is w u one) h)
      | inr more ↦ none_first k u ws h begin.1 more
    ]

-- no ORDER and no LIMIT where a change begins
no_tail :
    (k : Kind) (p : Phase) (bs : List Bool) → scan.has_tail k ≡ false
    → may_come k p bs scan.Tail ≡ true → ⊥
unfolding may_come
no_tail scan.Query p bs n e = cc
no_tail scan.Change scan.Begin bs n e = cc
no_tail scan.Change _ bs n e = cc
no_tail scan.Removal scan.Begin bs n e = cc
no_tail scan.Removal _ bs n e = cc

changes : (k : Kind) → begins k scan.Update ≡ true → k ≡ scan.Change
changes scan.Query e = cc
changes scan.Change e = refl
changes scan.Removal e = cc

removes : (k : Kind) → begins k scan.Delete ≡ true → scan.has_tail k ≡ false
removes scan.Query e = cc
removes scan.Change e = refl
removes scan.Removal e = refl

no_from : (p : Phase) (bs : List Bool) → may_come scan.Change p bs scan.From ≡ true → ⊥
unfolding may_come
no_from scan.Begin bs e = cc
no_from _ bs e = cc

module _ (k : Kind) (u : Terminal) (h : begins k (terminal_class u) ≡ true) where
  pub no_insert : Never k (Some u) foreign.Insert
  unfolding fits keyword_class keyword_mark is_reserved_word
  no_insert p bs before t ts b taken e =
      none_first k u (keyword.Insert ∷ keyword.Replace ∷ []) h refl e

  pub no_with : Never k (Some u) foreign.With
  unfolding fits keyword_class keyword_mark is_reserved_word
  no_with p bs before t ts b taken e =
      not_first k (keyword_class keyword.With) refl
      (subst (λ c. begins k c ≡ true) (keyword_is keyword.With u e) h)

  pub no_values : Never k (Some u) foreign.Values
  unfolding fits keyword_class keyword_mark is_reserved_word
  no_values p bs before t ts b taken e =
      not_first k (keyword_class keyword.Values) refl
      (subst (λ c. begins k c ≡ true) (keyword_is keyword.Values u e) h)

  pub no_other_statement : Never k (Some u) foreign.OtherStatement
  unfolding fits fits_other_statement keyword_class keyword_mark is_reserved_word
  no_other_statement p bs before t ts b taken e =
      none_first k u
      (keyword.Create ∷ keyword.Drop ∷ keyword.Alter ∷ keyword.Pragma ∷ keyword.Begin
      ∷ keyword.Commit ∷ keyword.End ∷ keyword.Rollback ∷ keyword.Savepoint ∷ keyword.Release
      ∷ keyword.Attach ∷ keyword.Detach ∷ keyword.Analyze ∷ keyword.Reindex ∷ keyword.Vacuum
      ∷ keyword.Explain ∷ [])
      h refl e

  pub no_update_from : Never k (Some u) foreign.UpdateFrom
  unfolding fits keyword_class keyword_mark mark_class
  no_update_from p bs before t ts b taken e =
      let parts = both _ _ e in
      let change = changes k
      (subst (λ c. begins k c ≡ true) (keyword_is keyword.Update u parts.0) h) in
      no_from p bs
      (subst (λ j. may_come j p bs scan.From ≡ true) change
      (comes k p bs keyword.From t taken.0 parts.1))

  pub no_limit_on_change : Never k (Some u) foreign.LimitOnChange
  unfolding fits keyword_class keyword_mark mark_class
  no_limit_on_change p bs before t ts b taken e =
      let parts = both _ _ e in
      let tail = seen k p bs t ts scan.Tail
      (among_is scan.Tail (keyword.Order ∷ keyword.Limit ∷ []) t
      (refl, (refl, tt)) parts.1) taken in
      elim (either (is_keyword keyword.Update (Some u)) _ parts.0) [
        | inl one ↦
            let change = changes k
            (subst (λ c. begins k c ≡ true) (keyword_is keyword.Update u one) h) in
            no_tail k p bs (rw change refl) tail.0
        | inr more ↦
            elim (either (is_keyword keyword.Delete (Some u)) _ more) [
              | inl one ↦
                  no_tail k p bs
                  (removes k
                  (subst (λ c. begins k c ≡ true) (keyword_is keyword.Delete u one) h)) tail.0
              | inr none ↦ cc
            ]
      ]

unnamed : (k : Kind) (bs : List Bool) → may_come k scan.Label bs scan.Word ≡ true → ⊥
unfolding may_come
unnamed k bs e = cc

-- behind UPDATE stands a name
pub no_update_or : (k : Kind) (first : Option Terminal) → Never k first foreign.UpdateOr
unfolding fits keyword_class keyword_mark mark_class phase_behind is_keyword
no_update_or k first p bs before t [] b taken e =
    second_false (is_none before && is_keyword keyword.Update (Some t)) e
no_update_or k first p bs before t (v ∷ ts) b taken e =
    let last = both (is_none before && is_keyword keyword.Update (Some t))
    (is_keyword keyword.Or (Some v)) e in
    let update = both (is_none before) (is_keyword keyword.Update (Some t)) last.0 in
    let rest = seen k p bs t (v ∷ ts) scan.Update (keyword_is keyword.Update t update.1) taken in
    unnamed k _ (comes k scan.Label _ keyword.Or v rest.1.0 last.1)
