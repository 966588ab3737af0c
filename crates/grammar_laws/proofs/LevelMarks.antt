-- The marks that stand outside of parentheses, level by level.
use Rattle.std.proofs.Common.{◌≡◌, ℕ, suc, Bool, true, false, ◌||◌, ◌⊎◌, inl, inr, cond}
use Rattle.std.proofs.Common.{List, [], ◌∷◌, ◌++◌, filter, refl, ap, sym, ◌∙◌, subst, append_assoc}
use Rattle.std.specs.List.{list_any}
use Rattle.std.proofs.lemmas.List.{append-nil}
use Rattle.sql_tree.specs.Trees.{Tree}
use Rattle.sql_tree.specs.declared.expression.Op.{Op}
use Rattle.sql_meaning.specs.Values.{Value}
use Rattle.sql_read.specs.declared.lexeme.Mark.{Mark}
use Rattle.sql_read.specs.declared.lexeme.Mark.TheVariants as mark
use Rattle.sql_read.specs.Lexemes.{Lexeme}
use Rattle.sql_read.specs.Lexemes as lexeme
use Rattle.sql_parse.specs.Grammar.{Level, Spells, Members, IsOp, IsNullTest, IsNumber, perhaps_not}
use Rattle.sql_parse.specs.Grammar as g
use Rattle.grammar_laws.specs.Outside.{outside_from, outside}
use Rattle.grammar_laws.specs.Outside.{is_or, is_between_or_and, is_above_operand}

-- The marks of a run whose parentheses are paired, whatever stands behind it.
record Shape (ts : List Lexeme) : Type 0 where
  marks : List Mark
  flat : (rest : List Lexeme) → outside_from 0 (ts ++ rest) ≡ marks ++ outside_from 0 rest
  inside :
      (d : ℕ) (rest : List Lexeme)
      → outside_from (suc d) (ts ++ rest) ≡ outside_from (suc d) rest

module _ {fs bs : List Lexeme} (a : Shape fs) (b : Shape bs) where
  flat_beside :
      (rest : List Lexeme)
      → outside_from 0 ((fs ++ bs) ++ rest) ≡ (a.marks ++ b.marks) ++ outside_from 0 rest
  flat_beside rest =
      ap (λ r. outside_from 0 r) (append_assoc fs bs rest)
      ∙ a.flat (bs ++ rest)
      ∙ ap (λ r. a.marks ++ r) (b.flat rest)
      ∙ sym (append_assoc a.marks b.marks (outside_from 0 rest))

  inside_beside :
      (d : ℕ) (rest : List Lexeme)
      → outside_from (suc d) ((fs ++ bs) ++ rest) ≡ outside_from (suc d) rest
  inside_beside d rest =
      ap (λ r. outside_from (suc d) r) (append_assoc fs bs rest)
      ∙ a.inside d (bs ++ rest)
      ∙ b.inside d rest

  beside : Shape (fs ++ bs)
  beside = record { marks = a.marks ++ b.marks; flat = flat_beside; inside = inside_beside }

nothing : Shape []
nothing = record { marks = []; flat = λ rest. refl; inside = λ d rest. refl }

-- marks that are no parentheses
abbrev is_bare : Mark → Bool
is_bare mark.Open = false
is_bare mark.Close = false
is_bare _ = true

flat_mark :
    (m : Mark) → is_bare m ≡ true → (rest : List Lexeme)
    → outside_from 0 (lexeme.Fixed m ∷ rest) ≡ m ∷ outside_from 0 rest
flat_mark mark.Open e rest = cc
flat_mark mark.Close e rest = cc
flat_mark _ e rest = refl

inside_mark :
    (m : Mark) → is_bare m ≡ true → (d : ℕ) (rest : List Lexeme)
    → outside_from (suc d) (lexeme.Fixed m ∷ rest) ≡ outside_from (suc d) rest
inside_mark mark.Open e d rest = cc
inside_mark mark.Close e d rest = cc
inside_mark _ e d rest = refl

one_mark : (m : Mark) → is_bare m ≡ true → Shape (lexeme.Fixed m ∷ [])
one_mark m e = record { marks = m ∷ []; flat = flat_mark m e; inside = inside_mark m e }

module _ {es : List Lexeme} (s : Shape es) where
  inside_enclosed :
      (d : ℕ) (rest : List Lexeme)
      → outside_from (suc d) ((es ++ lexeme.Fixed mark.Close ∷ []) ++ rest) ≡ outside_from d rest
  inside_enclosed d rest =
      ap (λ r. outside_from (suc d) r) (append_assoc es (lexeme.Fixed mark.Close ∷ []) rest)
      ∙ s.inside d (lexeme.Fixed mark.Close ∷ rest)

  enclosed : Shape (lexeme.Fixed mark.Open ∷ (es ++ lexeme.Fixed mark.Close ∷ []))
  enclosed = record {
    marks = [];
    flat = inside_enclosed 0;
    inside = λ d. inside_enclosed (suc d);
  }

-- a lexeme that is no mark
bare :
    (t : Lexeme) → ((d : ℕ) (rest : List Lexeme) → outside_from d (t ∷ rest) ≡ outside_from d rest)
    → Shape (t ∷ [])
bare t e = record { marks = []; flat = e 0; inside = λ d. e (suc d) }

-- Lists of marks.

neither : (a b : Bool) → (a || b) ≡ false → (a ≡ false) × (b ≡ false)
neither true b e = cc
neither false b e = (refl, e)

none_beside :
    (p : Mark → Bool) (ms ns : List Mark) → list_any p ms ≡ false → list_any p ns ≡ false
    → list_any p (ms ++ ns) ≡ false
none_beside p [] ns a b = b
none_beside p (m ∷ ms) ns a b =
    let parts = neither (p m) (list_any p ms) a in
    rw (parts.0, none_beside p ms ns parts.1 b) refl

kept_beside :
    (b : Bool) (m : Mark) (ms ns : List Mark)
    → cond b (m ∷ (ms ++ ns)) (ms ++ ns) ≡ cond b (m ∷ ms) ms ++ ns
kept_beside true m ms ns = refl
kept_beside false m ms ns = refl

filter_beside :
    (p : Mark → Bool) (ms ns : List Mark) → filter p (ms ++ ns) ≡ filter p ms ++ filter p ns
filter_beside p [] ns = refl
filter_beside p (m ∷ ms) ns =
    ap (λ r. cond (p m) (m ∷ r) r) (filter_beside p ms ns) ∙ kept_beside (p m) m (filter p ms)
    (filter p ns)

-- neither OR nor BETWEEN nor AND
abbrev Quiet : List Mark → Type 0
Quiet ms = (list_any is_or ms ≡ false) × (filter is_between_or_and ms ≡ [])

quiet_beside : (ms ns : List Mark) → Quiet ms → Quiet ns → Quiet (ms ++ ns)
quiet_beside ms ns a b = (
  none_beside is_or ms ns a.0 b.0,
  filter_beside is_between_or_and ms ns ∙ ap
      (λ r. r ++ filter is_between_or_and ns) a.1 ∙ b.1,
)

quiet_mark : (m : Mark) → is_above_operand m ≡ false → Quiet (m ∷ [])
quiet_mark mark.Or e = cc
quiet_mark mark.And e = cc
quiet_mark mark.Between e = cc
quiet_mark _ e = (refl, refl)

-- what an operand holds
quiet : (ms : List Mark) → list_any is_above_operand ms ≡ false → Quiet ms
quiet [] e = (refl, refl)
quiet (m ∷ ms) e =
    let parts = neither (is_above_operand m) (list_any is_above_operand ms) e in
    quiet_beside (m ∷ []) ms (quiet_mark m parts.0) (quiet ms parts.1)

op_mark : {m : Mark} {o : Op} → IsOp m o → (is_bare m ≡ true) × Quiet (m ∷ [])
op_mark g.eq = (refl, (refl, refl))
op_mark _ = (refl, (refl, refl))

abbrev QuietShape : List Lexeme → Type 0
QuietShape ts = (s : Shape ts) × Quiet s.marks

null_test : {neg : Bool} {ms : List Lexeme} → IsNullTest neg ms → QuietShape ms
unfolding beside one_mark
null_test g.is_null = (beside (one_mark mark.Is refl) (one_mark mark.Null refl), (refl, refl))
null_test g.isnull = (one_mark mark.Isnull refl, (refl, refl))
null_test g.is_not_null = (
  beside (one_mark mark.Is refl) (beside (one_mark mark.Not refl) (one_mark mark.Null refl)),
  (refl, refl),
)
null_test g.notnull = (one_mark mark.Notnull refl, (refl, refl))
null_test g.not_null = (beside (one_mark mark.Not refl) (one_mark mark.Null refl), (refl, refl))

word_marks :
    (neg : Bool) (m : Mark) → is_bare m ≡ true → Quiet (m ∷ []) → QuietShape (perhaps_not neg m)
unfolding beside one_mark
word_marks false m b q = (one_mark m b, q)
word_marks true m b q = (
  beside (one_mark mark.Not refl) (one_mark m b),
  quiet_beside (mark.Not ∷ []) (m ∷ []) (refl, refl) q,
)

between_marks :
    (neg : Bool)
    → (s : Shape (perhaps_not neg mark.Between)) × (list_any is_or s.marks ≡ false)
    × (filter is_between_or_and s.marks ≡ mark.Between ∷ [])
unfolding beside one_mark
between_marks false = (one_mark mark.Between refl, refl, refl)
between_marks true = (beside (one_mark mark.Not refl) (one_mark mark.Between refl), refl, refl)

-- What stands at each level.

abbrev InMember : List Mark → Type 0
InMember ms =
    (list_any is_or ms ≡ false)
    × ((filter is_between_or_and ms ≡ []) ⊎
    (filter is_between_or_and ms ≡ mark.Between ∷ mark.And ∷ []))

abbrev Holds : Level → List Mark → Type 0
Holds g.expr ms = Unit {0}
Holds g.and ms = list_any is_or ms ≡ false
Holds g.not ms = InMember ms
Holds g.test ms = InMember ms
Holds g.operand ms = list_any is_above_operand ms ≡ false
Holds g.primary ms = list_any is_above_operand ms ≡ false

abbrev Outside : Level → List Lexeme → Type 0
Outside l ts = (s : Shape ts) × Holds l s.marks

along : (l : Level) {ts qs : List Lexeme} → ts ≡ qs → Outside l qs → Outside l ts
along l e o = subst (λ r. Outside l r) (sym e) o

-- a quiet run is a test
as_test : {ts : List Lexeme} → QuietShape ts → Outside g.test ts
as_test q = (q.0, (q.1.0, inl q.1.1))

quiet_two : {fs bs : List Lexeme} → QuietShape fs → QuietShape bs → QuietShape (fs ++ bs)
unfolding beside
quiet_two a b = (beside a.0 b.0, quiet_beside a.0.marks b.0.marks a.1 b.1)

as_quiet : {ts : List Lexeme} → Outside g.operand ts → QuietShape ts
as_quiet o = (o.0, quiet o.0.marks o.1)

ranges :
    (a n b c : List Mark) → filter is_between_or_and a ≡ []
    → filter is_between_or_and n ≡ mark.Between ∷ [] → filter is_between_or_and b ≡ []
    → filter is_between_or_and c ≡ []
    → filter is_between_or_and (a ++ (n ++ (b ++ mark.And ∷ c))) ≡ mark.Between ∷ mark.And ∷ []
ranges a n b c fa fn fb fc =
    let p = is_between_or_and in
    filter_beside p a (n ++ (b ++ mark.And ∷ c))
    ∙ ap (λ r. r ++ filter p (n ++ (b ++ mark.And ∷ c))) fa
    ∙ filter_beside p n (b ++ mark.And ∷ c)
    ∙ ap (λ r. r ++ filter p (b ++ mark.And ∷ c)) fn
    ∙ ap (λ r. mark.Between ∷ r) (filter_beside p b (mark.And ∷ c))
    ∙ ap (λ r. mark.Between ∷ (r ++ mark.And ∷ filter p c)) fb
    ∙ ap (λ r. mark.Between ∷ mark.And ∷ r) fc

number_bare :
    {neg : Bool} {t : Lexeme} {v : Value} → IsNumber neg t v → (d : ℕ) (rest : List Lexeme) →
    outside_from d (t ∷ rest) ≡ outside_from d rest
number_bare (g.int e) d rest = refl
number_bare (g.dec e) d rest = refl

-- a level that holds no OR
abbrev HasNoOr : Level → Type 0
HasNoOr l = (ms : List Mark) → Holds l ms → list_any is_or ms ≡ false

mutual
  unfolding beside one_mark enclosed bare nothing

  level : {l : Level} {ts : List Lexeme} {x : Tree} → Spells l ts x → Outside l ts
  level (g.any_of ms) = ((members ms refl).0, tt)
  level (g.all_of ms) = let r = members ms refl in (r.0, r.1 refl (λ ms h. h.0))
  level (g.negated s) = let o = level s in (beside (one_mark mark.Not refl) o.0, (o.1.0, o.1.1))
  level (g.tested s) = level s
  level (g.bare s) = as_test (as_quiet (level s))
  level (g.compared {m = m} o s t e) =
      let w = op_mark o in
      along g.test e (as_test (quiet_two (as_quiet (level s))
      (quiet_two (one_mark m w.0, w.1) (as_quiet (level t)))))
  level (g.null_tested n s e) =
      along g.test e (as_test (quiet_two (as_quiet (level s)) (null_test n)))
  level (g.between neg s t u e) =
      let a = as_quiet (level s) in
      let n = between_marks neg in
      let b = as_quiet (level t) in
      let c = as_quiet (level u) in
      let and_c : Shape _ = beside (one_mark mark.And refl) c.0 in
      let rest = none_beside is_or b.0.marks (mark.And ∷ c.0.marks) b.1.0 c.1.0 in
      along g.test e (
        beside a.0 (beside n.0 (beside b.0 and_c)),
        (
          none_beside is_or a.0.marks (n.0.marks ++ (b.0.marks ++ mark.And ∷ c.0.marks)) a.1.0
              (none_beside is_or n.0.marks (b.0.marks ++ mark.And ∷ c.0.marks) n.1 rest),
          inr (ranges a.0.marks n.0.marks b.0.marks c.0.marks a.1.1 n.2 b.1.1 c.1.1),
        ),
      )
  level (g.like neg s t e) =
      along g.test e (as_test (quiet_two (as_quiet (level s))
      (quiet_two (word_marks neg mark.Like refl (refl, refl)) (as_quiet (level t)))))
  level (g.in_none neg s e) =
      along g.test e (as_test (quiet_two (as_quiet (level s))
      (quiet_two (word_marks neg mark.In refl (refl, refl)) (enclosed nothing, (refl, refl)))))
  level (g.in_some neg s t e) =
      along g.test e (as_test (quiet_two (as_quiet (level s))
      (quiet_two (word_marks neg mark.In refl (refl, refl))
      (enclosed (members t refl).0, (refl, refl)))))
  level (g.plus s) = let o = level s in (beside (one_mark mark.Plus refl) o.0, o.1)
  level (g.simple s) = level s
  level (g.collated c d s e) =
      let o = level s in
      along g.operand e (
        beside o.0 (beside (one_mark mark.Collate refl) (bare (lexeme.Name c d) (λ k rest. refl))),
        none_beside is_above_operand o.0.marks (mark.Collate ∷ []) o.1 refl,
      )
  level g.null = (one_mark mark.Null refl, refl)
  level (g.number {t} n) = (bare t (number_bare n), refl)
  level (g.negative {t} n) = (beside (one_mark mark.Minus refl) (bare t (number_bare n)), refl)
  level (g.text bytes) = (bare (lexeme.Text bytes) (λ k rest. refl), refl)
  level (g.blob bytes) = (bare (lexeme.Blob bytes) (λ k rest. refl), refl)
  level (g.param n) = (bare (lexeme.Param n) (λ k rest. refl), refl)
  level (g.column c d) = (bare (lexeme.Name c d) (λ k rest. refl), refl)
  level (g.qualified t c d e) = (
    beside (bare (lexeme.Name t d) (λ k rest. refl))
        (beside (one_mark mark.Dot refl) (bare (lexeme.Name c e) (λ k rest. refl))),
    refl,
  )
  level (g.enclosed s e) = along g.primary e (enclosed (level s).0, refl)

  members :
      {l : Level} {m : Mark} {ts : List Lexeme} {xs : List Tree} → Members l m ts xs
      → is_bare m ≡ true
      → (s : Shape ts) × (is_or m ≡ false → HasNoOr l → list_any is_or s.marks ≡ false)
  members (g.last s) b = let o = level s in (o.0, λ q n. n o.0.marks o.1)
  members {l} {m} (g.more s t e) b =
      let o = level s in
      let r = members t b in
      subst (λ qs. (s : Shape qs) × (is_or m ≡ false → HasNoOr l → list_any is_or s.marks ≡ false))
      (sym e) (
        beside o.0 (beside (one_mark m b) r.0),
        λ q n. none_beside is_or o.0.marks (m ∷ r.0.marks) (n o.0.marks o.1)
            (none_beside is_or (m ∷ []) r.0.marks (rw q refl) (r.1 q n)),
      )

-- The marks of a run alone.
all_marks : {ts : List Lexeme} (s : Shape ts) → outside ts ≡ s.marks
unfolding outside
all_marks {ts} s =
    ap (λ r. outside_from 0 r) (sym (append-nil ts)) ∙ s.flat [] ∙ append-nil s.marks

pub operand_level :
    (run : List Lexeme) (x : Tree) → Spells g.operand run x
    → list_any is_above_operand (outside run) ≡ false
operand_level run x s = let o = level s in rw (all_marks o.0) o.1

pub member_level :
    (run : List Lexeme) (x : Tree) → Spells g.not run x
    → (filter is_between_or_and (outside run) ≡ [])
    ⊎ (filter is_between_or_and (outside run) ≡ mark.Between ∷ mark.And ∷ [])
member_level run x s = let o = level s in rw (all_marks o.0) o.1.1

pub conjunction_level :
    (run : List Lexeme) (x : Tree) → Spells g.and run x → list_any is_or (outside run) ≡ false
conjunction_level run x s = let o = level s in rw (all_marks o.0) o.1
