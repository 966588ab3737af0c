-- What is read as a statement is spelled so.
use Rattle.std.proofs.Common.{◌≡◌, ℕ, ℤ, suc, zero, Bool, true, false, ◌⊎◌, inl, inr, Option, None}
use Rattle.std.proofs.Common.{Some}
use Rattle.std.proofs.Common.{List, [], ◌∷◌, ◌++◌, length, refl, ap, sym, ◌∙◌, subst, append_assoc}
use Rattle.sql_tree.specs.Trees.{Tree}
use Rattle.sql_tree.specs.Statements.{SourceTree, ItemTree, KeyTree, SelectTree, UpdateTree}
use Rattle.sql_tree.specs.Statements.{DeleteTree, StatementTree}
use Rattle.sql_tree.specs.Statements as statement
use Rattle.sql_tree.specs.declared.statement.Cut.{Cut}
use Rattle.sql_tree.specs.declared.statement.Cut.TheVariants as cut
use Rattle.sql_read.specs.declared.lexeme.Direction.{Direction}
use Rattle.sql_read.specs.declared.lexeme.Direction.TheVariants as direction
use Rattle.sql_read.specs.declared.lexeme.Mark.{Mark}
use Rattle.sql_read.specs.declared.lexeme.Mark.TheVariants as mark
use Rattle.sql_read.specs.Lexemes.{Lexeme}
use Rattle.sql_read.specs.Lexemes as lexeme
use Rattle.sql_read.specs.Reading.{◌>>=◌, after, past, name_at, Read, Reader, more_at, list_at}
use Rattle.sql_read.specs.Leaves.{signed}
use Rattle.sql_read.specs.Parts.{optional_at, label_at, alias_at, table_star_at}
use Rattle.sql_read.specs.Parts.{value_result_at, result_at, source_named, source_at}
use Rattle.sql_read.specs.Parts.{joined_source_at}
use Rattle.sql_read.specs.Parts.{on_condition, cross_joined, left_joined, join_at, join_begins}
use Rattle.sql_read.specs.Parts.{direction_at, key_by, key_at, keys_at, set_to, set_at}
use Rattle.sql_read.specs.Limits.{Cuts, count_at, param_at, cut_at, second_cut_at, limits_at}
use Rattle.sql_read.specs.Statements.{results_at, sources_at, sets_at, select_of, update_of}
use Rattle.sql_read.specs.Statements.{delete_of, from_at, select_at, update_at, delete_at}
use Rattle.sql_read.specs.Statements.{statement_at}
use Rattle.sql_parse.specs.Grammar.{Spells}
use Rattle.sql_parse.specs.Grammar as g
use Rattle.sql_parse.specs.Statements.{Listed, Condition, Label, Alias, Result, Table}
use Rattle.sql_parse.specs.Statements.{Joined, Join, Joins, Sources, Directed, SortKey, SortKeys}
use Rattle.sql_parse.specs.Statements.{Count, Limits, Setting, PerhapsAll, IsSpelled}
use Rattle.sql_parse.specs.Statements as s
use Rattle.sql_parse.proofs.Steps.{bind_ok, branch_ok, given_ok, after_ok, name_ok, Takes, IsSound}
use Rattle.sql_parse.proofs.Steps.{here, under, moved, behind, answered, both, list_ok}

-- Names and aliases.

label_ok : (texts : Bool) (ts : List Lexeme) (b : List ℕ) (r : List Lexeme)
    → label_at texts ts ≡ Some (b, r) →
    (t : Lexeme) × (ts ≡ t ∷ r) × Label texts t b
unfolding label_at
label_ok texts [] b r e = cc
label_ok texts (lexeme.Name bytes d ∷ ts) b r e =
    let same = given_ok bytes b ts r e in (
      lexeme.Name bytes d,
      ap (λ q. lexeme.Name bytes d ∷ q) same.1,
      subst (λ z. Label texts (lexeme.Name bytes d) z) same.0 (s.named bytes d),
    )
label_ok true (lexeme.Text bytes ∷ ts) b r e =
    let same = given_ok bytes b ts r e in (
      lexeme.Text bytes,
      ap (λ q. lexeme.Text bytes ∷ q) same.1,
      subst (λ z. Label true (lexeme.Text bytes) z) same.0 (s.text bytes),
    )
label_ok false (lexeme.Text bytes ∷ ts) b r e = cc
label_ok texts (lexeme.Fixed m ∷ ts) b r e = cc
label_ok texts (lexeme.Blob bytes ∷ ts) b r e = cc
label_ok texts (lexeme.Int n ∷ ts) b r e = cc
label_ok texts (lexeme.Dec n ∷ ts) b r e = cc
label_ok texts (lexeme.Param n ∷ ts) b r e = cc
label_ok texts (lexeme.Other ∷ ts) b r e = cc

alias_ok : (texts : Bool) → IsSound (Alias texts) (alias_at texts)
unfolding alias_at
alias_ok texts ts x rest e =
    elim (branch_ok (after mark.As ts) _ _ _ e) [
      | inl w ↦ elim (branch_ok (label_at texts ts) _ _ _ w.1) [
        | inl w ↦ here (Alias texts) [] rest ts x None s.none (given_ok None x ts rest w.1)
        | inr w ↦
            let k = label_ok texts ts w.0.0 w.0.1 w.1 in
            let same = given_ok (Some w.0.0) x w.0.1 rest w.2 in (
              k.0 ∷ [],
              k.1 ∙ ap (λ q. k.0 ∷ q) same.1,
              subst (λ z. Alias texts (k.0 ∷ []) z) same.0 (s.bare k.2),
            )
      ]
      | inr w ↦
          let d = bind_ok (label_at texts w.0) _ _ w.2 in
          let k = label_ok texts w.0 d.0.0 d.0.1 d.1 in
          let same = given_ok (Some d.0.0) x d.0.1 rest d.2 in
          let front : List Lexeme = lexeme.Fixed mark.As ∷ k.0 ∷ [] in (
            front,
            after_ok mark.As ts w.0 w.1
                ∙ ap (λ q. lexeme.Fixed mark.As ∷ q) (k.1 ∙ ap (λ q. k.0 ∷ q) same.1),
            subst
                (λ z. Alias texts front z) same.0 (s.behind_as k.2),
          )
    ]

table_star_ok : (ts : List Lexeme) (t : List ℕ) (r : List Lexeme) → table_star_at ts ≡ Some (t, r) →
    (d : Option Direction)
    × (ts ≡ lexeme.Name t d ∷ lexeme.Fixed mark.Dot ∷ lexeme.Fixed mark.Star ∷ r)
unfolding table_star_at
table_star_ok ts t r e =
    let n = bind_ok (name_at ts) _ _ e in
    let k = name_ok ts n.0.0 n.0.1 n.1 in
    elim (branch_ok (after mark.Dot n.0.1) _ _ _ n.2) [
      | inl w ↦ absurd (cc (w.1))
      | inr w ↦ elim (branch_ok (after mark.Star w.0) _ _ _ w.2) [
        | inl v ↦ absurd (cc (v.1))
        | inr v ↦
            let same = given_ok n.0.0 t v.0 r v.2 in
            let behind = after_ok mark.Dot n.0.1 w.0 w.1
            ∙ ap (λ q. lexeme.Fixed mark.Dot ∷ q)
            (after_ok mark.Star w.0 v.0 v.1 ∙ ap (λ q. lexeme.Fixed mark.Star ∷ q) same.1) in (
              k.0,
              k.1 ∙ ap (λ q. lexeme.Name n.0.0 k.0 ∷ q) behind
                  ∙ ap (λ z. lexeme.Name z k.0 ∷ lexeme.Fixed mark.Dot ∷ lexeme.Fixed mark.Star ∷ r)
                  same.0,
            )
      ]
    ]

table_ok : IsSound Table source_at
unfolding source_at
table_ok ts x rest e =
    let n = bind_ok (name_at ts) _ _ e in
    let k = name_ok ts n.0.0 n.0.1 n.1 in
    let d = bind_ok (alias_at false n.0.1) _ _ n.2 in
    let a = alias_ok false n.0.1 d.0.0 d.0.1 d.1 in
    let same = given_ok (source_named n.0.0 d.0.0) x d.0.1 rest d.2 in
    let front : List Lexeme = lexeme.Name n.0.0 k.0 ∷ a.0 in (
      front,
      k.1 ∙ ap (λ q. lexeme.Name n.0.0 k.0 ∷ q) (a.1 ∙ ap (λ q. a.0 ++ q) same.1),
      subst (λ z. Table front z) same.0 (s.table n.0.0 k.0 a.2),
    )

-- Lists with commas.
listed_ok : {A : Type 0} (R : List Lexeme → A → Type 0) (p : Reader A) → IsSound R p
    → IsSound (Listed R) (list_at p (after mark.Comma) p)
listed_ok R p sound =
    list_ok R (Listed R) mark.Comma (λ ts x r. s.last r) (λ fs bs x xs r t. s.more r t refl) p sound

-- LIMIT and OFFSET.

count_ok : (neg : Bool) (ts : List Lexeme) (c : Cut) (r : List Lexeme)
    → count_at neg ts ≡ Some (c, r) →
    (n : ℕ) × (z : ℤ) × (signed neg n ≡ Some z) × (ts ≡ lexeme.Int n ∷ r) × (cut.Count z ≡ c)
unfolding count_at
count_ok neg [] c r e = cc
count_ok neg (lexeme.Int n ∷ ts) c r e =
    let d = bind_ok {B = Cut × List Lexeme} (signed neg n) _ _ e in
    let same = given_ok (cut.Count d.0) c ts r d.2 in
    (n, d.0, d.1, ap (λ q. lexeme.Int n ∷ q) same.1, same.0)
count_ok neg (lexeme.Fixed m ∷ ts) c r e = cc
count_ok neg (lexeme.Name bytes d ∷ ts) c r e = cc
count_ok neg (lexeme.Text bytes ∷ ts) c r e = cc
count_ok neg (lexeme.Blob bytes ∷ ts) c r e = cc
count_ok neg (lexeme.Dec n ∷ ts) c r e = cc
count_ok neg (lexeme.Param n ∷ ts) c r e = cc
count_ok neg (lexeme.Other ∷ ts) c r e = cc

param_ok : (ts : List Lexeme) (n : ℕ) (r : List Lexeme) → param_at ts ≡ Some (n, r)
    → ts ≡ lexeme.Param n ∷ r
unfolding param_at
param_ok [] n r e = cc
param_ok (lexeme.Param k ∷ ts) n r e =
    let same = given_ok k n ts r e in
    cc (same.0, same.1)
param_ok (lexeme.Fixed m ∷ ts) n r e = cc
param_ok (lexeme.Name bytes d ∷ ts) n r e = cc
param_ok (lexeme.Text bytes ∷ ts) n r e = cc
param_ok (lexeme.Blob bytes ∷ ts) n r e = cc
param_ok (lexeme.Int k ∷ ts) n r e = cc
param_ok (lexeme.Dec k ∷ ts) n r e = cc
param_ok (lexeme.Other ∷ ts) n r e = cc

cut_ok : IsSound Count cut_at
unfolding cut_at
cut_ok ts x rest e =
    elim (branch_ok (after mark.Minus ts) _ _ _ e) [
      | inr w ↦
          let k = count_ok true w.0 x rest w.2 in
          let front : List Lexeme = lexeme.Fixed mark.Minus ∷ lexeme.Int k.0 ∷ [] in (
            front,
            after_ok mark.Minus ts w.0 w.1 ∙ ap (λ q. lexeme.Fixed mark.Minus ∷ q) k.3,
            subst (λ z. Count front z) k.4 (s.negative k.2),
          )
      | inl w ↦ elim (branch_ok (param_at ts) _ _ _ w.1) [
        | inr w ↦
            let same = given_ok (cut.Param w.0.0) x w.0.1 rest w.2 in
            let front : List Lexeme = lexeme.Param w.0.0 ∷ [] in (
              front,
              param_ok ts w.0.0 w.0.1 w.1 ∙ ap (λ q. lexeme.Param w.0.0 ∷ q) same.1,
              subst (λ z. Count front z) same.0 (s.param w.0.0),
            )
        | inl w ↦
            let k = count_ok false ts x rest w.1 in
            let front : List Lexeme = lexeme.Int k.0 ∷ [] in
            (front, k.3, subst (λ z. Count front z) k.4 (s.count k.2))
      ]
    ]

-- one number behind LIMIT, and what follows
second_ok : (x : Cut) (fs : List Lexeme) → Count fs x
    → (ts : List Lexeme) (c : Cuts) (rest : List Lexeme) →
    second_cut_at x ts ≡ Some (c, rest) → Takes Limits (lexeme.Fixed mark.Limit ∷ (fs ++ ts)) c rest
unfolding second_cut_at
second_ok x fs first ts c rest e =
    elim (branch_ok (after mark.Offset ts) _ _ _ e) [
      | inr w ↦
          let d = bind_ok (cut_at w.0) _ _ w.2 in
          let t = cut_ok w.0 d.0.0 d.0.1 d.1 in
          let same = given_ok (Some x, Some d.0.0) c d.0.1 rest d.2 in
          let front : List Lexeme =
          lexeme.Fixed mark.Limit ∷ (fs ++ lexeme.Fixed mark.Offset ∷ t.0) in
          let whole : ts ≡ lexeme.Fixed mark.Offset ∷ (t.0 ++ rest) =
          after_ok mark.Offset ts w.0 w.1
          ∙ ap (λ q. lexeme.Fixed mark.Offset ∷ q) (t.1 ∙ ap (λ q. t.0 ++ q) same.1) in (
            front,
            ap (λ q. lexeme.Fixed mark.Limit ∷ q)
                (ap (λ q. fs ++ q) whole
                ∙ sym (append_assoc fs (lexeme.Fixed mark.Offset ∷ t.0) rest)),
            subst (λ z. Limits front z) same.0 (s.limit_offset first t.2 refl),
          )
      | inl w ↦ elim (branch_ok (after mark.Comma ts) _ _ _ w.1) [
        | inr w ↦
            let d = bind_ok (cut_at w.0) _ _ w.2 in
            let t = cut_ok w.0 d.0.0 d.0.1 d.1 in
            let same = given_ok (Some d.0.0, Some x) c d.0.1 rest d.2 in
            let front : List Lexeme =
            lexeme.Fixed mark.Limit ∷ (fs ++ lexeme.Fixed mark.Comma ∷ t.0) in
            let whole : ts ≡ lexeme.Fixed mark.Comma ∷ (t.0 ++ rest) =
            after_ok mark.Comma ts w.0 w.1
            ∙ ap (λ q. lexeme.Fixed mark.Comma ∷ q) (t.1 ∙ ap (λ q. t.0 ++ q) same.1) in (
              front,
              ap (λ q. lexeme.Fixed mark.Limit ∷ q)
                  (ap (λ q. fs ++ q) whole
                  ∙ sym (append_assoc fs (lexeme.Fixed mark.Comma ∷ t.0) rest)),
              subst (λ z. Limits front z) same.0 (s.offset_limit first t.2 refl),
            )
        | inl w ↦
            let same = given_ok (Some x, None) c ts rest w.1 in
            let front : List Lexeme = lexeme.Fixed mark.Limit ∷ fs in (
              front,
              ap (λ q. lexeme.Fixed mark.Limit ∷ (fs ++ q)) same.1,
              subst (λ z. Limits front z) same.0 (s.limit first),
            )
      ]
    ]

cuts_ok : IsSound Limits limits_at
unfolding limits_at
cuts_ok ts x rest e =
    elim (branch_ok (after mark.Limit ts) _ _ _ e) [
      | inl w ↦ here Limits [] rest ts x (None, None) s.none (given_ok (None, None) x ts rest w.1)
      | inr w ↦
          let d = bind_ok (cut_at w.0) _ _ w.2 in
          let t = cut_ok w.0 d.0.0 d.0.1 d.1 in
          moved Limits ts (lexeme.Fixed mark.Limit ∷ (t.0 ++ d.0.1)) rest x
          (after_ok mark.Limit ts w.0 w.1 ∙ ap (λ q. lexeme.Fixed mark.Limit ∷ q) t.1)
          (second_ok d.0.0 t.0 t.2 d.0.1 x rest d.2)
    ]

direction_ok : IsSound Directed direction_at
unfolding direction_at
direction_ok [] x rest e = here Directed [] rest [] x false s.none (given_ok false x [] rest e)
direction_ok (lexeme.Name bytes None ∷ ts) x rest e =
    here Directed [] rest (lexeme.Name bytes None ∷ ts) x false s.none
    (given_ok false x (lexeme.Name bytes None ∷ ts) rest e)
direction_ok (lexeme.Name bytes (Some direction.Asc) ∷ ts) x rest e =
    here Directed (lexeme.Name bytes (Some direction.Asc) ∷ []) rest ts x false (s.asc bytes)
    (given_ok false x ts rest e)
direction_ok (lexeme.Name bytes (Some direction.Desc) ∷ ts) x rest e =
    here Directed (lexeme.Name bytes (Some direction.Desc) ∷ []) rest ts x true (s.desc bytes)
    (given_ok true x ts rest e)
direction_ok (lexeme.Fixed m ∷ ts) x rest e =
    here Directed [] rest (lexeme.Fixed m ∷ ts) x false s.none
    (given_ok false x (lexeme.Fixed m ∷ ts) rest e)
direction_ok (lexeme.Text b ∷ ts) x rest e =
    here Directed [] rest (lexeme.Text b ∷ ts) x false s.none
    (given_ok false x (lexeme.Text b ∷ ts) rest e)
direction_ok (lexeme.Blob b ∷ ts) x rest e =
    here Directed [] rest (lexeme.Blob b ∷ ts) x false s.none
    (given_ok false x (lexeme.Blob b ∷ ts) rest e)
direction_ok (lexeme.Int n ∷ ts) x rest e =
    here Directed [] rest (lexeme.Int n ∷ ts) x false s.none
    (given_ok false x (lexeme.Int n ∷ ts) rest e)
direction_ok (lexeme.Dec n ∷ ts) x rest e =
    here Directed [] rest (lexeme.Dec n ∷ ts) x false s.none
    (given_ok false x (lexeme.Dec n ∷ ts) rest e)
direction_ok (lexeme.Param n ∷ ts) x rest e =
    here Directed [] rest (lexeme.Param n ∷ ts) x false s.none
    (given_ok false x (lexeme.Param n ∷ ts) rest e)
direction_ok (lexeme.Other ∷ ts) x rest e =
    here Directed [] rest (lexeme.Other ∷ ts) x false s.none
    (given_ok false x (lexeme.Other ∷ ts) rest e)

join_same : (ts r : List Lexeme) → join_begins ts ≡ Some r → ts ≡ r
unfolding join_begins
join_same ts r e =
    elim (branch_ok (after mark.Comma ts) _ _ _ e) [
      | inr w ↦ cc (w.2)
      | inl w ↦ elim (branch_ok (after mark.Cross ts) _ _ _ w.1) [
        | inr w ↦ cc (w.2)
        | inl w ↦ elim (branch_ok (after mark.Left ts) _ _ _ w.1) [
          | inr w ↦ cc (w.2)
          | inl w ↦ elim (branch_ok (after mark.Inner ts) _ _ _ w.1) [
            | inr w ↦ cc (w.2)
            | inl w ↦ elim (branch_ok (after mark.Join ts) _ _ _ w.1) [
              | inr w ↦ cc (w.2)
              | inl w ↦ absurd (cc (w.1))
            ]
          ]
        ]
      ]
    ]

-- the mark is passed or doesn't stand here
past_ok : (m : Mark) (ts : List Lexeme)
    → (ts ≡ past m ts) ⊎ (ts ≡ lexeme.Fixed m ∷ past m ts)
unfolding past
past_ok m ts =
    elim (branch_ok (after m ts) _ _ (past m ts) refl) [
      | inl w ↦ inl w.1
      | inr w ↦ inr (after_ok m ts w.0 w.1 ∙ ap (λ q. lexeme.Fixed m ∷ q) w.2)
    ]

past_all_ok : (ts : List Lexeme)
    → (qs : List Lexeme) × PerhapsAll qs × (ts ≡ qs ++ past mark.All ts)
past_all_ok ts =
    elim (past_ok mark.All ts) [
      | inl same ↦ ([], s.none, same)
      | inr behind ↦ (lexeme.Fixed mark.All ∷ [], s.all, behind)
    ]

-- Parts with expressions, over a reader of expressions.
module _ (p : Reader Tree) (sound : IsSound (Spells g.expr) p) where
  condition_ok : (m : Mark) → IsSound (Condition m) (optional_at m p)
  unfolding optional_at
  condition_ok m ts x rest e =
      elim (branch_ok (after m ts) _ _ _ e) [
        | inl w ↦ here (Condition m) [] rest ts x None s.absent (given_ok None x ts rest w.1)
        | inr w ↦
            let d = bind_ok (p w.0) _ _ w.2 in
            behind (Condition m) (lexeme.Fixed m) ts w.0 rest x (after_ok m ts w.0 w.1)
            (answered (Spells g.expr) (λ fs z. Condition m (lexeme.Fixed m ∷ fs) z) w.0 d.0.1 rest
            d.0.0 (Some d.0.0) x (λ fs k. s.present k) (given_ok (Some d.0.0) x d.0.1 rest d.2)
            (sound w.0 d.0.0 d.0.1 d.1))
      ]

  value_result_ok : IsSound Result (value_result_at p)
  unfolding value_result_at
  value_result_ok ts x rest e =
      let d = bind_ok (p ts) _ _ e in
      let k = bind_ok (alias_at true d.0.1) _ _ d.2 in
      let made = statement.Value d.0.0 k.0.0 in
      both (Spells g.expr) (Alias true) Result ts d.0.1 k.0.1 rest d.0.0 k.0.0 made x
      (λ fs bs t a. s.value t a refl) (given_ok made x k.0.1 rest k.2) (sound ts d.0.0 d.0.1 d.1)
      (alias_ok true d.0.1 k.0.0 k.0.1 k.1)

  result_ok : IsSound Result (result_at p)
  unfolding result_at
  result_ok ts x rest e =
      elim (branch_ok (after mark.Star ts) _ _ _ e) [
        | inr w ↦
            let same = given_ok statement.Star x w.0 rest w.2 in
            let front : List Lexeme = lexeme.Fixed mark.Star ∷ [] in (
              front,
              after_ok mark.Star ts w.0 w.1 ∙ ap (λ q. lexeme.Fixed mark.Star ∷ q) same.1,
              subst (λ z. Result front z) same.0 s.star,
            )
        | inl w ↦ elim (branch_ok (table_star_at ts) _ _ _ w.1) [
          | inr w ↦
              let k = table_star_ok ts w.0.0 w.0.1 w.1 in
              let same = given_ok (statement.TableStar w.0.0) x w.0.1 rest w.2 in
              let front : List Lexeme =
              lexeme.Name w.0.0 k.0 ∷ lexeme.Fixed mark.Dot ∷ lexeme.Fixed mark.Star ∷ [] in (
                front,
                k.1 ∙ ap (λ q. lexeme.Name w.0.0 k.0 ∷ lexeme.Fixed mark.Dot ∷ lexeme.Fixed
                    mark.Star ∷ q) same.1,
                subst (λ z. Result front z) same.0 (s.table_star w.0.0 k.0),
              )
          | inl w ↦ value_result_ok ts x rest w.1
        ]
      ]

  joined_ok : IsSound Joined (joined_source_at p)
  unfolding joined_source_at
  joined_ok ts x rest e =
      elim (branch_ok (after mark.Join ts) _ _ _ e) [
        | inl w ↦ absurd (cc (w.1))
        | inr w ↦
            let d = bind_ok (source_at w.0) _ _ w.2 in
            let h = bind_ok (optional_at mark.On p d.0.1) _ _ d.2 in
            let made = on_condition d.0.0 h.0.0 in
            behind Joined (lexeme.Fixed mark.Join) ts w.0 rest x (after_ok mark.Join ts w.0 w.1)
            (both Table (Condition mark.On) (λ fs z. Joined (lexeme.Fixed mark.Join ∷ fs) z) w.0
            d.0.1 h.0.1 rest d.0.0 h.0.0 made x (λ fs bs t c. s.joined t c refl)
            (given_ok made x h.0.1 rest h.2) (table_ok w.0 d.0.0 d.0.1 d.1)
            (condition_ok mark.On d.0.1 h.0.0 h.0.1 h.1))
      ]

  -- what is read behind a join's word, with the flag that the word sets
  flagged_ok : (flag : SourceTree → SourceTree) (q : List Lexeme) (x : SourceTree)
      (rest : List Lexeme) →
      ◌>>=◌ {B = SourceTree × List Lexeme} (joined_source_at p q) (λ r. Some (flag r.0, r.1))
      ≡ Some (x, rest)
      → Takes (λ ts z. (y : SourceTree) × Joined ts y × (flag y ≡ z)) q x rest
  flagged_ok flag q x rest e =
      let d = bind_ok (joined_source_at p q) _ _ e in
      answered Joined (λ ts z. (y : SourceTree) × Joined ts y × (flag y ≡ z)) q d.0.1 rest d.0.0
      (flag d.0.0) x (λ fs t. (d.0.0, t, refl)) (given_ok (flag d.0.0) x d.0.1 rest d.2)
      (joined_ok q d.0.0 d.0.1 d.1)

  cross_ok : (ts q : List Lexeme) (x : SourceTree) (rest : List Lexeme)
      → after mark.Cross ts ≡ Some q
      → Takes (λ ts z. (y : SourceTree) × Joined ts y × (cross_joined y ≡ z)) q x rest
      → Takes Join ts x rest
  cross_ok ts q x rest next t = (
    lexeme.Fixed mark.Cross ∷ t.0,
    after_ok mark.Cross ts q next ∙ ap (λ r. lexeme.Fixed mark.Cross ∷ r) t.1,
    subst (λ z. Join (lexeme.Fixed mark.Cross ∷ t.0) z) t.2.2 (s.cross t.2.1),
  )

  left_ok : (ts q : List Lexeme) (x : SourceTree) (rest : List Lexeme) → after mark.Left ts ≡ Some q
      → Takes (λ ts z. (y : SourceTree) × Joined ts y × (left_joined y ≡ z)) (past mark.Outer q) x
      rest → Takes Join ts x rest
  left_ok ts q x rest next t =
      let is = after_ok mark.Left ts q next in
      elim (past_ok mark.Outer q) [
        | inl same ↦ (
          lexeme.Fixed mark.Left ∷ t.0,
          is ∙ ap (λ r. lexeme.Fixed mark.Left ∷ r) (same ∙ t.1),
          subst (λ z. Join (lexeme.Fixed mark.Left ∷ t.0) z) t.2.2 (s.left t.2.1),
        )
        | inr behind ↦ (
          lexeme.Fixed mark.Left ∷ lexeme.Fixed mark.Outer ∷ t.0,
          is ∙ ap (λ r. lexeme.Fixed mark.Left ∷ r)
              (behind ∙ ap (λ r. lexeme.Fixed mark.Outer ∷ r) t.1),
          subst (λ z. Join (lexeme.Fixed mark.Left ∷ lexeme.Fixed mark.Outer ∷ t.0) z) t.2.2
              (s.left_outer t.2.1),
        )
      ]

  inner_ok : (ts : List Lexeme) (x : SourceTree) (rest : List Lexeme)
      → joined_source_at p (past mark.Inner ts) ≡ Some (x, rest) → Takes Join ts x rest
  inner_ok ts x rest e =
      let t = joined_ok (past mark.Inner ts) x rest e in
      elim (past_ok mark.Inner ts) [
        | inl same ↦ (t.0, same ∙ t.1, s.plain t.2)
        | inr behind ↦ (
          lexeme.Fixed mark.Inner ∷ t.0,
          behind ∙ ap (λ r. lexeme.Fixed mark.Inner ∷ r) t.1,
          s.inner t.2,
        )
      ]

  join_ok : IsSound Join (join_at p)
  unfolding join_at
  join_ok ts x rest e =
      elim (branch_ok (after mark.Comma ts) _ _ _ e) [
        | inr w ↦
            behind Join (lexeme.Fixed mark.Comma) ts w.0 rest x (after_ok mark.Comma ts w.0 w.1)
            (under Table (λ fs z. Join (lexeme.Fixed mark.Comma ∷ fs) z) w.0 rest x x
            (λ fs t. s.comma t) (table_ok w.0 x rest w.2))
        | inl w ↦ elim (branch_ok (after mark.Cross ts) _ _ _ w.1) [
          | inr w ↦ cross_ok ts w.0 x rest w.1 (flagged_ok cross_joined w.0 x rest w.2)
          | inl w ↦ elim (branch_ok (after mark.Left ts) _ _ _ w.1) [
            | inr w ↦ left_ok ts w.0 x rest w.1
                (flagged_ok left_joined (past mark.Outer w.0) x rest w.2)
            | inl w ↦ inner_ok ts x rest w.1
          ]
        ]
      ]

  joins_ok : (n : ℕ) → IsSound Joins (more_at join_begins (join_at p) n)
  unfolding more_at
  joins_ok zero ts x rest e = here Joins [] rest ts x [] s.none (given_ok [] x ts rest e)
  joins_ok (suc n) ts x rest e =
      elim (branch_ok (join_begins ts) _ _ _ e) [
        | inl w ↦ here Joins [] rest ts x [] s.none (given_ok [] x ts rest w.1)
        | inr w ↦
            let d = bind_ok (join_at p w.0) _ _ w.2 in
            let h = bind_ok (more_at join_begins (join_at p) n d.0.1) _ _ d.2 in
            let made = d.0.0 ∷ h.0.0 in
            moved Joins ts w.0 rest x (join_same ts w.0 w.1)
            (both Join Joins Joins w.0 d.0.1 h.0.1 rest d.0.0 h.0.0 made x
            (λ fs bs t k. s.more t k refl) (given_ok made x h.0.1 rest h.2)
            (join_ok w.0 d.0.0 d.0.1 d.1) (joins_ok n d.0.1 h.0.0 h.0.1 h.1))
      ]

  sources_ok : IsSound Sources (sources_at p)
  unfolding sources_at list_at
  sources_ok ts x rest e =
      let d = bind_ok (source_at ts) _ _ e in
      let h = bind_ok (more_at join_begins (join_at p) (length d.0.1) d.0.1) _ _ d.2 in
      let made = d.0.0 ∷ h.0.0 in
      both Table Joins Sources ts d.0.1 h.0.1 rest d.0.0 h.0.0 made x
      (λ fs bs t k. s.sources t k refl) (given_ok made x h.0.1 rest h.2)
      (table_ok ts d.0.0 d.0.1 d.1) (joins_ok (length d.0.1) d.0.1 h.0.0 h.0.1 h.1)

  key_ok : IsSound SortKey (key_at p)
  unfolding key_at
  key_ok ts x rest e =
      let d = bind_ok (p ts) _ _ e in
      let h = bind_ok (direction_at d.0.1) _ _ d.2 in
      let made = key_by d.0.0 h.0.0 in
      both (Spells g.expr) Directed SortKey ts d.0.1 h.0.1 rest d.0.0 h.0.0 made x
      (λ fs bs t k. s.key t k refl) (given_ok made x h.0.1 rest h.2) (sound ts d.0.0 d.0.1 d.1)
      (direction_ok d.0.1 h.0.0 h.0.1 h.1)

  keys_ok : IsSound SortKeys (keys_at p)
  unfolding keys_at
  keys_ok ts x rest e =
      elim (branch_ok (after mark.Order ts) _ _ _ e) [
        | inl w ↦ here SortKeys [] rest ts x [] s.unordered (given_ok [] x ts rest w.1)
        | inr w ↦ elim (branch_ok (after mark.By w.0) _ _ _ w.2) [
          | inl v ↦ absurd (cc (v.1))
          | inr v ↦
              let t = listed_ok SortKey (key_at p) key_ok v.0 x rest v.2 in
              let front : List Lexeme = lexeme.Fixed mark.Order ∷ lexeme.Fixed mark.By ∷ t.0 in (
                front,
                after_ok mark.Order ts w.0 w.1
                    ∙ ap (λ q. lexeme.Fixed mark.Order ∷ q)
                    (after_ok mark.By w.0 v.0 v.1 ∙ ap (λ q. lexeme.Fixed mark.By ∷ q) t.1),
                s.ordered
                    t.2,
              )
        ]
      ]

  set_ok : IsSound Setting (set_at p)
  unfolding set_at
  set_ok ts x rest e =
      let n = bind_ok (name_at ts) _ _ e in
      let k = name_ok ts n.0.0 n.0.1 n.1 in
      elim (branch_ok (after mark.Eq n.0.1) _ _ _ n.2) [
        | inl w ↦ absurd (cc (w.1))
        | inr w ↦
            let d = bind_ok (p w.0) _ _ w.2 in
            let t = sound w.0 d.0.0 d.0.1 d.1 in
            let same = given_ok (set_to n.0.0 d.0.0) x d.0.1 rest d.2 in
            let front : List Lexeme = lexeme.Name n.0.0 k.0 ∷ lexeme.Fixed mark.Eq ∷ t.0 in (
              front,
              k.1 ∙ ap (λ q. lexeme.Name n.0.0 k.0 ∷ q)
                  (after_ok mark.Eq n.0.1 w.0 w.1
                  ∙ ap (λ q. lexeme.Fixed mark.Eq ∷ q) (t.1 ∙ ap (λ q. t.0 ++ q) same.1)),
              subst (λ z. Setting front z) same.0 (s.set n.0.0 k.0 t.2),
            )
      ]

  -- what follows FROM, up to the end of the statement
  abbrev TakesFrom : List ItemTree → List Lexeme → SelectTree → List Lexeme → Type 0
  TakesFrom results ts x rest =
      (ss : List Lexeme) × (fs : List Lexeme) × (ks : List Lexeme) × (cs : List Lexeme) ×
      (sources : List SourceTree) × (filter : Option Tree) × (keys : List KeyTree) × (cuts : Cuts) ×
      Sources ss sources × Condition mark.Where fs filter × SortKeys ks keys × Limits cs cuts ×
      (select_of results sources filter keys cuts ≡ x) × (ts ≡ (ss ++ (fs ++ (ks ++ cs))) ++ rest)

  from_ok : (results : List ItemTree) (ts : List Lexeme) (x : SelectTree) (rest : List Lexeme)
      → from_at p results ts ≡ Some (x, rest) → TakesFrom results ts x rest
  unfolding from_at
  from_ok results ts x rest e =
      let a = bind_ok (sources_at p ts) _ _ e in
      let b = bind_ok (optional_at mark.Where p a.0.1) _ _ a.2 in
      let c = bind_ok (keys_at p b.0.1) _ _ b.2 in
      let d = bind_ok (limits_at c.0.1) _ _ c.2 in
      let sources = sources_ok ts a.0.0 a.0.1 a.1 in
      let filter = condition_ok mark.Where a.0.1 b.0.0 b.0.1 b.1 in
      let keys = keys_ok b.0.1 c.0.0 c.0.1 c.1 in
      let cuts = cuts_ok c.0.1 d.0.0 d.0.1 d.1 in
      let same = given_ok (select_of results a.0.0 b.0.0 c.0.0 d.0.0) x d.0.1 rest d.2 in
      let split : ts ≡ sources.0 ++ (filter.0 ++ (keys.0 ++ (cuts.0 ++ rest))) =
      sources.1 ∙ ap (λ q. sources.0 ++ q)
      (filter.1 ∙ ap (λ q. filter.0 ++ q)
      (keys.1 ∙ ap (λ q. keys.0 ++ q) (cuts.1 ∙ ap (λ q. cuts.0 ++ q) same.1))) in
      let again : sources.0 ++ (filter.0 ++ (keys.0 ++ (cuts.0 ++ rest)))
      ≡ (sources.0 ++ (filter.0 ++ (keys.0 ++ cuts.0))) ++ rest = simp append_assoc in (
        sources.0,
        filter.0,
        keys.0,
        cuts.0,
        a.0.0,
        b.0.0,
        c.0.0,
        d.0.0,
        sources.2,
        filter.2,
        keys.2,
        cuts.2,
        same.0,
        split ∙ again,
      )

  select_ok : (ts q : List Lexeme) (x : SelectTree) (rest : List Lexeme)
      → after mark.Select ts ≡ Some q → select_at p q ≡ Some (x, rest)
      → Takes IsSpelled ts (statement.Select x) rest
  unfolding select_at results_at
  select_ok ts q x rest next e =
      let passed = past_all_ok q in
      let a = bind_ok (list_at (result_at p) (after mark.Comma) (result_at p) (past mark.All q))
      _ _ e in
      let results = listed_ok Result (result_at p) result_ok (past mark.All q) a.0.0 a.0.1 a.1 in
      elim (branch_ok (after mark.From a.0.1) _ _ _ a.2) [
        | inl w ↦ absurd (cc (w.1))
        | inr w ↦
            let f = from_ok a.0.0 w.0 x rest w.2 in
            let behind : List Lexeme = f.0 ++ (f.1 ++ (f.2 ++ f.3)) in
            let front : List Lexeme =
            lexeme.Fixed mark.Select ∷ (passed.0 ++ (results.0 ++ lexeme.Fixed mark.From ∷ behind))
            in
            let split : q ≡ passed.0 ++ (results.0 ++ lexeme.Fixed mark.From ∷ (behind ++ rest)) =
            passed.2 ∙ ap (λ z. passed.0 ++ z)
            (results.1 ∙ ap (λ z. results.0 ++ z)
            (after_ok mark.From a.0.1 w.0 w.1 ∙ ap (λ z. lexeme.Fixed mark.From ∷ z) f.13)) in
            let again : passed.0 ++ (results.0 ++ lexeme.Fixed mark.From ∷ (behind ++ rest))
            ≡ (passed.0 ++ (results.0 ++ lexeme.Fixed mark.From ∷ behind)) ++ rest =
            ap (λ z. passed.0 ++ z)
            (sym (append_assoc results.0 (lexeme.Fixed mark.From ∷ behind) rest))
            ∙ sym (append_assoc passed.0 (results.0 ++ lexeme.Fixed mark.From ∷ behind) rest) in (
              front,
              after_ok mark.Select ts q next
                  ∙ ap (λ z. lexeme.Fixed mark.Select ∷ z) (split ∙ again),
              subst
                  (λ z. IsSpelled front (statement.Select z)) f.12
                  (s.select passed.1 results.2 f.8 f.9 f.10 f.11 refl),
            )
      ]

  update_ok : (ts q : List Lexeme) (x : UpdateTree) (rest : List Lexeme)
      → after mark.Update ts ≡ Some q → update_at p q ≡ Some (x, rest)
      → Takes IsSpelled ts (statement.Update x) rest
  unfolding update_at sets_at
  update_ok ts q x rest next e =
      let a = bind_ok (source_at q) _ _ e in
      let source = table_ok q a.0.0 a.0.1 a.1 in
      elim (branch_ok (after mark.Set a.0.1) _ _ _ a.2) [
        | inl w ↦ absurd (cc (w.1))
        | inr w ↦
            let b = bind_ok (list_at (set_at p) (after mark.Comma) (set_at p) w.0) _ _ w.2 in
            let sets = listed_ok Setting (set_at p) set_ok w.0 b.0.0 b.0.1 b.1 in
            let c = bind_ok (optional_at mark.Where p b.0.1) _ _ b.2 in
            let filter = condition_ok mark.Where b.0.1 c.0.0 c.0.1 c.1 in
            let same = given_ok (update_of a.0.0 b.0.0 c.0.0) x c.0.1 rest c.2 in
            let front : List Lexeme =
            lexeme.Fixed mark.Update ∷
            (source.0 ++ lexeme.Fixed mark.Set ∷ (sets.0 ++ filter.0)) in
            let split : q ≡ source.0 ++ lexeme.Fixed mark.Set ∷ (sets.0 ++ (filter.0 ++ rest)) =
            source.1 ∙ ap (λ z. source.0 ++ z)
            (after_ok mark.Set a.0.1 w.0 w.1
            ∙ ap (λ z. lexeme.Fixed mark.Set ∷ z)
            (sets.1 ∙ ap (λ z. sets.0 ++ z) (filter.1 ∙ ap (λ z. filter.0 ++ z) same.1))) in
            let again : source.0 ++ lexeme.Fixed mark.Set ∷ (sets.0 ++ (filter.0 ++ rest))
            ≡ (source.0 ++ lexeme.Fixed mark.Set ∷ (sets.0 ++ filter.0)) ++ rest =
            ap (λ z. source.0 ++ lexeme.Fixed mark.Set ∷ z)
            (sym (append_assoc sets.0 filter.0 rest))
            ∙ sym (append_assoc source.0 (lexeme.Fixed mark.Set ∷ (sets.0 ++ filter.0)) rest) in (
              front,
              after_ok mark.Update ts q next
                  ∙ ap (λ z. lexeme.Fixed mark.Update ∷ z) (split ∙ again),
              subst
                  (λ z. IsSpelled front (statement.Update z)) same.0
                  (s.update source.2 sets.2 filter.2 refl),
            )
      ]

  delete_ok : (ts q : List Lexeme) (x : DeleteTree) (rest : List Lexeme)
      → after mark.Delete ts ≡ Some q → delete_at p q ≡ Some (x, rest)
      → Takes IsSpelled ts (statement.Delete x) rest
  unfolding delete_at
  delete_ok ts q x rest next e =
      elim (branch_ok (after mark.From q) _ _ _ e) [
        | inl w ↦ absurd (cc (w.1))
        | inr w ↦
            let a = bind_ok (source_at w.0) _ _ w.2 in
            let source = table_ok w.0 a.0.0 a.0.1 a.1 in
            let c = bind_ok (optional_at mark.Where p a.0.1) _ _ a.2 in
            let filter = condition_ok mark.Where a.0.1 c.0.0 c.0.1 c.1 in
            let same = given_ok (delete_of a.0.0 c.0.0) x c.0.1 rest c.2 in
            let front : List Lexeme =
            lexeme.Fixed mark.Delete ∷ lexeme.Fixed mark.From ∷ (source.0 ++ filter.0) in
            let split : q ≡ lexeme.Fixed mark.From ∷ ((source.0 ++ filter.0) ++ rest) =
            after_ok mark.From q w.0 w.1
            ∙ ap (λ z. lexeme.Fixed mark.From ∷ z)
            (source.1 ∙ ap (λ z. source.0 ++ z) (filter.1 ∙ ap (λ z. filter.0 ++ z) same.1)
            ∙ sym (append_assoc source.0 filter.0 rest)) in (
              front,
              after_ok mark.Delete ts q next ∙ ap (λ z. lexeme.Fixed mark.Delete ∷ z) split,
              subst (λ z. IsSpelled front (statement.Delete z)) same.0
                  (s.delete source.2 filter.2 refl),
            )
      ]

  -- a reader's answer under a constructor
  wrapped : {A : Type 0} (f : A → StatementTree) (r : Read A) (x : StatementTree)
      (rest : List Lexeme) →
      ◌>>=◌ {B = StatementTree × List Lexeme} r (λ a. Some (f a.0, a.1)) ≡ Some (x, rest)
      → (y : A) × (f y ≡ x) × (r ≡ Some (y, rest))
  wrapped {A} f r x rest e =
      let d = bind_ok r _ _ e in
      let same = given_ok (f d.0.0) x d.0.1 rest d.2 in
      (d.0.0, same.0, d.1 ∙ ap (λ z. Some (d.0.0, z)) same.1)

  pub statement_ok : IsSound IsSpelled (statement_at p)
  unfolding statement_at
  statement_ok ts x rest e =
      elim (branch_ok (after mark.Select ts) _ _ _ e) [
        | inr w ↦
            let k = wrapped statement.Select (select_at p w.0) x rest w.2 in
            subst (λ z. Takes IsSpelled ts z rest) k.1 (select_ok ts w.0 k.0 rest w.1 k.2)
        | inl w ↦ elim (branch_ok (after mark.Update ts) _ _ _ w.1) [
          | inr w ↦
              let k = wrapped statement.Update (update_at p w.0) x rest w.2 in
              subst (λ z. Takes IsSpelled ts z rest) k.1 (update_ok ts w.0 k.0 rest w.1 k.2)
          | inl w ↦ elim (branch_ok (after mark.Delete ts) _ _ _ w.1) [
            | inr w ↦
                let k = wrapped statement.Delete (delete_at p w.0) x rest w.2 in
                subst (λ z. Takes IsSpelled ts z rest) k.1 (delete_ok ts w.0 k.0 rest w.1 k.2)
            | inl w ↦ absurd (cc (w.1))
          ]
        ]
      ]
