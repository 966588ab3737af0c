-- The scan takes what spells an expression.
use Rattle.std.proofs.Common.{◌≡◌, Bool, true, false, List, [], ◌∷◌, ◌++◌, refl, ap, sym, ◌∙◌}
use Rattle.std.proofs.Common.{subst, append_assoc}
use Rattle.sql_tree.specs.Trees.{Tree}
use Rattle.sql_tree.specs.declared.expression.Op.{Op}
use Rattle.sql_meaning.specs.Values.{Value}
use Rattle.sql_read.specs.declared.lexeme.Mark.{Mark}
use Rattle.sql_read.specs.declared.lexeme.Mark.TheVariants as mark
use Rattle.sql_read.specs.Lexemes.{Lexeme}
use Rattle.sql_read.specs.Lexemes as lexeme
use Rattle.sql_parse.specs.Grammar.{Level, Spells, Members, IsOp, IsNullTest, IsNumber, perhaps_not}
use Rattle.sql_parse.specs.Grammar as g
use Rattle.sql_parse.proofs.Complete.{parts}
use Rattle.grammar_laws.proofs.Scan.{Class, Kind, Phase, Takes, Before, Behind, mark_class}
use Rattle.grammar_laws.proofs.Scan.{lexeme_class}
use Rattle.grammar_laws.proofs.Scan.{may_come, phase_behind, stack_behind}
use Rattle.grammar_laws.proofs.Scan as scan

abbrev pub Goes : Kind → Phase → List Bool → List Lexeme → Type 0
Goes k p bs ts = Takes lexeme_class k p bs ts

-- what is taken behind an operand
abbrev pub Rest : Kind → List Bool → List Lexeme → Type 0
Rest k bs rest = (q : Phase) → Behind q → Goes k q bs rest

-- what is taken where an operand may begin
abbrev pub Start : Kind → List Bool → List Lexeme → Type 0
Start k bs rest = (p : Phase) → Before p → Goes k p bs rest

-- what is taken behind an operand and something of this class
abbrev pub RestBehind : Kind → List Bool → List Lexeme → Class → Type 0
RestBehind k bs rest c =
    (q : Phase) → Behind q
    → (may_come k q bs c ≡ true) × Goes k (phase_behind q c) (stack_behind q c bs) rest

behind_word :
    (k : Kind) (bs : List Bool) (rest : List Lexeme) → Goes k scan.Anew bs rest
    → RestBehind k bs rest scan.Word
unfolding may_come phase_behind stack_behind
behind_word k bs rest h _ scan.named = (refl, h)
behind_word k bs rest h _ scan.ended = (refl, h)

pub behind_mark :
    (k : Kind) (bs : List Bool) (rest : List Lexeme) (m : Mark) → mark_class m ≡ scan.Word
    → Goes k scan.Anew bs rest → Rest k bs (lexeme.Fixed m ∷ rest)
unfolding lexeme_class
behind_mark k bs rest m e h = subst (λ c. RestBehind k bs rest c) (sym e) (behind_word k bs rest h)

op_class : {m : Mark} {o : Op} → IsOp m o → mark_class m ≡ scan.Word
unfolding mark_class
op_class g.eq = refl
op_class _ = refl

behind_null_test :
    (k : Kind) (bs : List Bool) {neg : Bool} {ms : List Lexeme} (rest : List Lexeme)
    → IsNullTest neg ms
    → Rest k bs rest → Rest k bs (ms ++ rest)
unfolding lexeme_class mark_class may_come phase_behind stack_behind
behind_null_test k bs rest g.is_null h _ scan.named = (refl, (refl, h scan.Ended scan.ended))
behind_null_test k bs rest g.is_null h _ scan.ended = (refl, (refl, h scan.Ended scan.ended))
behind_null_test k bs rest g.isnull h _ scan.named = (refl, h scan.Ended scan.ended)
behind_null_test k bs rest g.isnull h _ scan.ended = (refl, h scan.Ended scan.ended)
behind_null_test k bs rest g.is_not_null h _ scan.named =
    (refl, (refl, (refl, h scan.Ended scan.ended)))
behind_null_test k bs rest g.is_not_null h _ scan.ended =
    (refl, (refl, (refl, h scan.Ended scan.ended)))
behind_null_test k bs rest g.notnull h _ scan.named = (refl, h scan.Ended scan.ended)
behind_null_test k bs rest g.notnull h _ scan.ended = (refl, h scan.Ended scan.ended)
behind_null_test k bs rest g.not_null h _ scan.named = (refl, (refl, h scan.Ended scan.ended))
behind_null_test k bs rest g.not_null h _ scan.ended = (refl, (refl, h scan.Ended scan.ended))

pub before_word :
    (k : Kind) (bs : List Bool) (rest : List Lexeme) (m : Mark) → mark_class m ≡ scan.Word
    → Goes k scan.Anew bs rest → Goes k scan.Anew bs (lexeme.Fixed m ∷ rest)
unfolding lexeme_class may_come phase_behind stack_behind
before_word k bs rest m e h = rw e (refl, h)

behind_not :
    (k : Kind) (bs : List Bool) (rest : List Lexeme) → Goes k scan.Anew bs rest
    → Rest k bs (lexeme.Fixed mark.Not ∷ rest)
unfolding lexeme_class mark_class may_come phase_behind stack_behind
behind_not k bs rest h _ scan.named = (refl, h)
behind_not k bs rest h _ scan.ended = (refl, h)

-- BETWEEN or LIKE, behind NOT or not
behind_test :
    (k : Kind) (bs : List Bool) (neg : Bool) (m : Mark) (rest : List Lexeme)
    → mark_class m ≡ scan.Word → Goes k scan.Anew bs rest → Rest k bs (perhaps_not neg m ++ rest)
behind_test k bs false m rest e h = behind_mark k bs rest m e h
behind_test k bs true m rest e h =
    behind_not k bs (lexeme.Fixed m ∷ rest) (before_word k bs rest m e h)

behind_in :
    (k : Kind) (bs : List Bool) (neg : Bool) (rest : List Lexeme)
    → Goes k scan.Anew (true ∷ bs) rest
    → Rest k bs (perhaps_not neg mark.In ++ lexeme.Fixed mark.Open ∷ rest)
unfolding lexeme_class mark_class may_come phase_behind stack_behind
behind_in k bs false rest h _ scan.named = (refl, (refl, h))
behind_in k bs false rest h _ scan.ended = (refl, (refl, h))
behind_in k bs true rest h _ scan.named = (refl, (refl, (refl, h)))
behind_in k bs true rest h _ scan.ended = (refl, (refl, (refl, h)))

behind_close :
    (k : Kind) (b : Bool) (bs : List Bool) (rest : List Lexeme) → Rest k bs rest
    → Rest k (b ∷ bs) (lexeme.Fixed mark.Close ∷ rest)
unfolding lexeme_class mark_class may_come phase_behind stack_behind
behind_close k b bs rest h _ scan.named = (refl, h scan.Ended scan.ended)
behind_close k b bs rest h _ scan.ended = (refl, h scan.Ended scan.ended)

-- nothing between the parentheses of an IN
none_in :
    (k : Kind) (bs : List Bool) (rest : List Lexeme) → Rest k bs rest
    → Goes k scan.Anew (true ∷ bs) (lexeme.Fixed mark.Close ∷ rest)
unfolding lexeme_class mark_class may_come phase_behind stack_behind
none_in k bs rest h = (refl, h scan.Ended scan.ended)

behind_collate :
    (k : Kind) (bs : List Bool) (rest : List Lexeme) (t : Lexeme) → lexeme_class t ≡ scan.Name
    → Rest k bs rest → Rest k bs (lexeme.Fixed mark.Collate ∷ t ∷ rest)
unfolding lexeme_class mark_class may_come phase_behind stack_behind
behind_collate k bs rest t e h _ scan.named = (refl, rw e (refl, h scan.Ended scan.ended))
behind_collate k bs rest t e h _ scan.ended = (refl, rw e (refl, h scan.Ended scan.ended))

before_mark :
    (k : Kind) (bs : List Bool) (rest : List Lexeme) (m : Mark) → mark_class m ≡ scan.Not
    → Goes k scan.Anew bs rest → Start k bs (lexeme.Fixed m ∷ rest)
unfolding lexeme_class may_come phase_behind stack_behind
before_mark k bs rest m e h _ scan.fresh = rw e (refl, h)
before_mark k bs rest m e h _ scan.anew = rw e (refl, h)

before_plus :
    (k : Kind) (bs : List Bool) (rest : List Lexeme) → Goes k scan.Anew bs rest
    → Start k bs (lexeme.Fixed mark.Plus ∷ rest)
unfolding lexeme_class mark_class may_come phase_behind stack_behind
before_plus k bs rest h _ scan.fresh = (refl, h)
before_plus k bs rest h _ scan.anew = (refl, h)

before_open :
    (k : Kind) (bs : List Bool) (rest : List Lexeme) → Goes k scan.Anew (false ∷ bs) rest
    → Start k bs (lexeme.Fixed mark.Open ∷ rest)
unfolding lexeme_class mark_class may_come phase_behind stack_behind
before_open k bs rest h _ scan.fresh = (refl, h)
before_open k bs rest h _ scan.anew = (refl, h)

number_class :
    {neg : Bool} {t : Lexeme} {v : Value} → IsNumber neg t v → lexeme_class t ≡ scan.Number
unfolding lexeme_class
number_class (g.int e) = refl
number_class (g.dec e) = refl

before_number :
    (k : Kind) (bs : List Bool) (rest : List Lexeme) (t : Lexeme) → lexeme_class t ≡ scan.Number
    → Rest k bs rest → Start k bs (t ∷ rest)
unfolding may_come phase_behind stack_behind
before_number k bs rest t e h _ scan.fresh = rw e (refl, h scan.Ended scan.ended)
before_number k bs rest t e h _ scan.anew = rw e (refl, h scan.Ended scan.ended)

before_negative :
    (k : Kind) (bs : List Bool) (rest : List Lexeme) (t : Lexeme) → lexeme_class t ≡ scan.Number
    → Rest k bs rest → Start k bs (lexeme.Fixed mark.Minus ∷ t ∷ rest)
unfolding lexeme_class mark_class may_come phase_behind stack_behind
before_negative k bs rest t e h _ scan.fresh = (refl, rw e (refl, h scan.Ended scan.ended))
before_negative k bs rest t e h _ scan.anew = (refl, rw e (refl, h scan.Ended scan.ended))

-- a mark between two members
abbrev Parts : Kind → List Bool → Mark → Type 0
Parts k bs m = (rest : List Lexeme) → Start k bs rest → Rest k bs (lexeme.Fixed m ∷ rest)

parts_or : (k : Kind) (bs : List Bool) → Parts k bs mark.Or
unfolding mark_class
parts_or k bs rest h = behind_mark k bs rest mark.Or refl (h scan.Anew scan.anew)

parts_and : (k : Kind) (bs : List Bool) → Parts k bs mark.And
unfolding mark_class
parts_and k bs rest h = behind_mark k bs rest mark.And refl (h scan.Anew scan.anew)

parts_comma : (k : Kind) (bs : List Bool) → Parts k (true ∷ bs) mark.Comma
unfolding lexeme_class mark_class may_come phase_behind stack_behind
parts_comma k bs rest h _ scan.named = (refl, h scan.Fresh scan.fresh)
parts_comma k bs rest h _ scan.ended = (refl, h scan.Fresh scan.fresh)

mutual
  unfolding lexeme_class mark_class may_come phase_behind stack_behind

  pub expression :
      {l : Level} {ts : List Lexeme} {x : Tree} → Spells l ts x
      → (k : Kind) (bs : List Bool) (rest : List Lexeme) → Rest k bs rest → Start k bs (ts ++ rest)
  expression (g.any_of ms) k bs rest h p b = members ms k bs (parts_or k bs) rest h p b
  expression (g.all_of ms) k bs rest h p b = members ms k bs (parts_and k bs) rest h p b
  expression (g.negated {ts} s) k bs rest h p b =
      before_mark k bs (ts ++ rest) mark.Not refl (expression s k bs rest h scan.Anew scan.anew) p b
  expression (g.tested s) k bs rest h p b = expression s k bs rest h p b
  expression (g.bare s) k bs rest h p b = expression s k bs rest h p b
  expression (g.compared {ts} {fs} {bs = cs} {m = m} o s t e) k bs rest h p b =
      rw (parts ts fs (lexeme.Fixed m ∷ cs) rest e)
      (expression s k bs (lexeme.Fixed m ∷ (cs ++ rest))
      (behind_mark k bs (cs ++ rest) m (op_class o)
      (expression t k bs rest h scan.Anew scan.anew)) p b)
  expression (g.null_tested {ts} {fs} {ms} n s e) k bs rest h p b =
      rw (parts ts fs ms rest e)
      (expression s k bs (ms ++ rest) (behind_null_test k bs rest n h) p b)
  expression (g.between {ts} {fs} {bs = cs} {cs = ds} neg s t u e) k bs rest h p b =
      let ms = perhaps_not neg mark.Between in
      let inside : List Lexeme = cs ++ lexeme.Fixed mark.And ∷ ds in
      let tail : List Lexeme = cs ++ lexeme.Fixed mark.And ∷ (ds ++ rest) in
      let whole : ts ++ rest ≡ fs ++ (ms ++ tail) =
      parts ts fs (ms ++ inside) rest e ∙ ap (λ r. fs ++ r) (append_assoc ms inside rest
      ∙ ap (λ r. ms ++ r) (append_assoc cs (lexeme.Fixed mark.And ∷ ds) rest)) in
      rw whole (expression s k bs (ms ++ tail) (behind_test k bs neg mark.Between tail refl
      (expression t k bs (lexeme.Fixed mark.And ∷ (ds ++ rest)) (parts_and k bs (ds ++ rest)
      (expression u k bs rest h)) scan.Anew scan.anew)) p b)
  expression (g.like {ts} {fs} {bs = cs} neg s t e) k bs rest h p b =
      let ms = perhaps_not neg mark.Like in
      let whole : ts ++ rest ≡ fs ++ (ms ++ (cs ++ rest)) =
      parts ts fs (ms ++ cs) rest e ∙ ap (λ r. fs ++ r) (append_assoc ms cs rest) in
      rw whole (expression s k bs (ms ++ (cs ++ rest))
      (behind_test k bs neg mark.Like (cs ++ rest) refl
      (expression t k bs rest h scan.Anew scan.anew)) p b)
  expression (g.in_none {ts} {fs} neg s e) k bs rest h p b =
      let ms = perhaps_not neg mark.In in
      let inside : List Lexeme = lexeme.Fixed mark.Open ∷ lexeme.Fixed mark.Close ∷ [] in
      let q : List Lexeme = lexeme.Fixed mark.Close ∷ rest in
      let whole : ts ++ rest ≡ fs ++ (ms ++ lexeme.Fixed mark.Open ∷ q) =
      parts ts fs (ms ++ inside) rest e ∙ ap (λ r. fs ++ r) (append_assoc ms inside rest) in
      rw whole (expression s k bs (ms ++ lexeme.Fixed mark.Open ∷ q)
      (behind_in k bs neg q (none_in k bs rest h)) p b)
  expression (g.in_some {ts} {fs} {bs = cs} neg s t e) k bs rest h p b =
      let ms = perhaps_not neg mark.In in
      let inside : List Lexeme = lexeme.Fixed mark.Open ∷ (cs ++ lexeme.Fixed mark.Close ∷ []) in
      let q : List Lexeme = cs ++ lexeme.Fixed mark.Close ∷ rest in
      let whole : ts ++ rest ≡ fs ++ (ms ++ lexeme.Fixed mark.Open ∷ q) =
      parts ts fs (ms ++ inside) rest e ∙ ap (λ r. fs ++ r) (append_assoc ms inside rest
      ∙ ap (λ r. ms ++ lexeme.Fixed mark.Open ∷ r)
      (append_assoc cs (lexeme.Fixed mark.Close ∷ []) rest)) in
      rw whole (expression s k bs (ms ++ lexeme.Fixed mark.Open ∷ q)
      (behind_in k bs neg q
      (members t k (true ∷ bs) (parts_comma k bs) (lexeme.Fixed mark.Close ∷ rest)
      (behind_close k true bs rest h) scan.Anew scan.anew)) p b)
  expression (g.plus {ts} s) k bs rest h p b =
      before_plus k bs (ts ++ rest) (expression s k bs rest h scan.Anew scan.anew) p b
  expression (g.simple s) k bs rest h p b = expression s k bs rest h p b
  expression (g.collated {ts} {fs} c d s e) k bs rest h p b =
      let behind : List Lexeme = lexeme.Fixed mark.Collate ∷ lexeme.Name c d ∷ [] in
      rw (parts ts fs behind rest e)
      (expression s k bs (behind ++ rest) (behind_collate k bs rest (lexeme.Name c d) refl h) p b)
  expression g.null k bs rest h _ scan.fresh = (refl, h scan.Ended scan.ended)
  expression g.null k bs rest h _ scan.anew = (refl, h scan.Ended scan.ended)
  expression (g.number {t} n) k bs rest h p b = before_number k bs rest t (number_class n) h p b
  expression (g.negative {t} n) k bs rest h p b = before_negative k bs rest t (number_class n) h p b
  expression (g.text bytes) k bs rest h _ scan.fresh = (refl, h scan.Ended scan.ended)
  expression (g.text bytes) k bs rest h _ scan.anew = (refl, h scan.Ended scan.ended)
  expression (g.blob bytes) k bs rest h _ scan.fresh = (refl, h scan.Ended scan.ended)
  expression (g.blob bytes) k bs rest h _ scan.anew = (refl, h scan.Ended scan.ended)
  expression (g.param n) k bs rest h _ scan.fresh = (refl, h scan.Ended scan.ended)
  expression (g.param n) k bs rest h _ scan.anew = (refl, h scan.Ended scan.ended)
  expression (g.column c d) k bs rest h _ scan.fresh = (refl, h scan.Named scan.named)
  expression (g.column c d) k bs rest h _ scan.anew = (refl, h scan.Named scan.named)
  expression (g.qualified t c d e) k bs rest h _ scan.fresh =
      (refl, (refl, (refl, h scan.Ended scan.ended)))
  expression (g.qualified t c d e) k bs rest h _ scan.anew =
      (refl, (refl, (refl, h scan.Ended scan.ended)))
  expression (g.enclosed {ts} {es} s e) k bs rest h p b =
      let q : List Lexeme = es ++ lexeme.Fixed mark.Close ∷ rest in
      let whole : ts ++ rest ≡ lexeme.Fixed mark.Open ∷ q =
      ap (λ r. r ++ rest) e
      ∙ ap (λ r. lexeme.Fixed mark.Open ∷ r)
      (append_assoc es (lexeme.Fixed mark.Close ∷ []) rest) in
      rw whole (before_open k bs q (expression s k (false ∷ bs) (lexeme.Fixed mark.Close ∷ rest)
      (behind_close k false bs rest h) scan.Anew scan.anew) p b)

  members :
      {l : Level} {m : Mark} {ts : List Lexeme} {xs : List Tree} → Members l m ts xs
      → (k : Kind) (bs : List Bool) → Parts k bs m → (rest : List Lexeme) → Rest k bs rest
      → Start k bs (ts ++ rest)
  members (g.last s) k bs between rest h p b = expression s k bs rest h p b
  members {m = m} (g.more {ts = ts} {fs = fs} {bs = cs} s t e) k bs between rest h p b =
      rw (parts ts fs (lexeme.Fixed m ∷ cs) rest e)
      (expression s k bs (lexeme.Fixed m ∷ (cs ++ rest))
      (between (cs ++ rest) (members t k bs between rest h)) p b)
