-- Lists of figures, by what stands at each number.
use Rattle.std.specs.List.{AllByRecursion}
use Rattle.std.proofs.Common.{◌≡◌, ℕ, zero, suc, ◌+◌, ◌<◌, Bool, false, refl, arith, ap, sym}
use Rattle.std.proofs.Common.{◌∙◌, List, [], ◌∷◌, length, map, Option, Some, None}
use Rattle.std.proofs.Common.{slice_get, slice_index_or, subst}
use Rattle.sql_meaning.specs.Schemas.{Index, Schema, Database}
use Rattle.plan_choice.specs.Logarithms.{log_est}
use Rattle.plan_choice.specs.Figures.{Figures, figures, index_figures, figures_of_indexes}
use Rattle.plan_choice.specs.Figures.{rows_of_tables, counts_of}
use Rattle.plan_choice.specs.GivenFigures.{Counts, Given, Names, each_or, numbers_or, figures_or}
use Rattle.plan_choice.specs.GivenFigures.{given_figures, given_tables, given_of_indexes}
use Rattle.plan_choice.specs.GivenFigures.{tells_unordered}
use Rattle.plan_choice.specs.FigureLaws.{AreOfSchema, AreSmall}
use Rattle.plan_choice.proofs.FittingFigures.{counted_figures_fit, given_figures_fit}
use Rattle.schema_model.specs.Schemas.{Schema as Held}
use Rattle.schema_model.specs.PlainSchemas.{plain_database, plain_schema, plain_table}
use Rattle.schema_model.specs.declared.rows.Row.{Row}
use Rattle.sql_meaning.specs.Statements.{numbers_from}
use Rattle.stat_figures.specs.Requests.{uniques}
use Rattle.std.proofs.lemmas.List.{length-map}
use Rattle.stat_figures.specs.GivenCounts.{HasNumbers}
use Rattle.stat_figures.proofs.GivenLists.{given_has}

pub each_none : (choose : List ℕ → Option Counts → List ℕ) (nss : List (List ℕ))
    → each_or choose nss [] ≡ nss
each_none choose [] = refl
each_none choose (ns ∷ nss) = ap (λ l. ns ∷ l) (each_none choose nss)

pub each_length : (choose : List ℕ → Option Counts → List ℕ) (nss : List (List ℕ))
    (given : List (Option Counts)) → length (each_or choose nss given) ≡ length nss
each_length choose [] given = refl
each_length choose (ns ∷ nss) [] = ap suc (each_length choose nss [])
each_length choose (ns ∷ nss) (g ∷ given) = ap suc (each_length choose nss given)

pub each_get : (nss : List (List ℕ)) (given : List (Option Counts)) (k : ℕ) (ns : List ℕ)
    → slice_get nss k ≡ Some ns
    → slice_get (each_or numbers_or nss given) k
    ≡ Some (numbers_or ns (slice_index_or given k None))
each_get [] given k ns e = absurd (cc)
each_get (x ∷ nss) [] zero ns e = e
each_get (x ∷ nss) [] (suc k) ns e = each_get nss [] k ns e
each_get (x ∷ nss) (g ∷ given) zero ns e =
    let same : Some x ≡ Some ns = e in
    let it : x ≡ ns = cc in
    ap (λ ms. Some (numbers_or ms g)) it
each_get (x ∷ nss) (g ∷ given) (suc k) ns e = each_get nss given k ns e

pub figures_length : (unique : List Bool) (number : ℕ) (indexes : List Index)
    (counted : List (List ℕ)) → length counted ≡ length indexes
    → length (figures_of_indexes unique number indexes counted) ≡ length indexes
figures_length unique number [] counted e = refl
figures_length unique number (index ∷ indexes) [] e = absurd (omega arith)
figures_length unique number (index ∷ indexes) (ns ∷ counted) e =
    ap suc (figures_length unique (suc number) indexes counted (omega arith))

pub figures_get : (unique : List Bool) (number : ℕ) (indexes : List Index)
    (counted : List (List ℕ)) (k : ℕ) (index : Index) (ns : List ℕ)
    → slice_get indexes k ≡ Some index → slice_get counted k ≡ Some ns
    → slice_get (figures_of_indexes unique number indexes counted) k
    ≡ Some
    (index_figures (slice_index_or unique (number + k) false) (length index.columns) ns)
figures_get unique number [] counted k index ns e h = absurd (cc)
figures_get unique number (x ∷ indexes) [] k index ns e h = absurd (cc)
figures_get unique number (x ∷ indexes) (y ∷ counted) zero index ns e h =
    let one : Some x ≡ Some index = e in
    let two : Some y ≡ Some ns = h in
    let same : x ≡ index = cc in
    let also : y ≡ ns = cc in
    rw (same, also)
    (ap
    (λ n. Some (index_figures (slice_index_or unique n false) (length index.columns) ns))
    (none_more number))
  where
    none_more : (t : ℕ) → t ≡ t + 0
    none_more t = omega arith
figures_get unique number (x ∷ indexes) (y ∷ counted) (suc k) index ns e h =
    figures_get unique (suc number) indexes counted k index ns e h
    ∙ ap
    (λ n. Some (index_figures (slice_index_or unique n false) (length index.columns) ns))
    (one_more number k)
  where
    one_more : (t k : ℕ) → suc t + k ≡ t + suc k
    one_more t k = omega arith

some_logs : (unique : Bool) (columns : ℕ) (ns : List ℕ) → 0 < length ns
    → map log_est ns ≡ index_figures unique columns ns
some_logs unique columns [] h = absurd (omega arith)
some_logs unique columns (n ∷ ns) h = refl

each_case : (unique : Bool) (columns : ℕ) (ns : List ℕ) (g : Option Counts) → HasNumbers g
    → figures_or (index_figures unique columns ns) g
    ≡ index_figures unique columns (numbers_or ns g)
each_case unique columns ns None h = refl
each_case unique columns ns (Some counts) h = some_logs unique columns counts.numbers h

-- the figures of given counts are their logarithms
pub each_figures : (unique : List Bool) (number : ℕ) (indexes : List Index)
    (counted : List (List ℕ)) (given : List (Option Counts)) → AllByRecursion HasNumbers given
    → each_or figures_or (figures_of_indexes unique number indexes counted) given
    ≡ figures_of_indexes unique number indexes (each_or numbers_or counted given)
each_figures unique number [] counted given h = refl
each_figures unique number (index ∷ indexes) [] given h = refl
each_figures unique number (index ∷ indexes) (ns ∷ counted) [] h =
    each_none figures_or
    (figures_of_indexes unique number (index ∷ indexes) (ns ∷ counted))
    ∙ ap (figures_of_indexes unique number (index ∷ indexes))
    (sym (each_none numbers_or (ns ∷ counted)))
each_figures unique number (index ∷ indexes) (ns ∷ counted) (g ∷ given) h =
    rw (
      each_case (slice_index_or unique number false) (length index.columns) ns g h.0,
      each_figures unique (suc number) indexes counted given h.1,
    ) refl

pub figures_at : (unique : List Bool) (indexes : List Index) (counted : List (List ℕ)) (k : ℕ)
    (index : Index) (ns : List ℕ) (u : Bool)
    → slice_get indexes k ≡ Some index → slice_get counted k ≡ Some ns
    → slice_index_or unique k false ≡ u
    → slice_get (figures_of_indexes unique 0 indexes counted) k
    ≡ Some (index_figures u (length index.columns) ns)
figures_at unique indexes counted k index ns u e h q =
    figures_get unique 0 indexes counted k index ns e h
    ∙ ap
    (λ n. Some (index_figures (slice_index_or unique n false) (length index.columns) ns))
    (zero_is k)
    ∙ ap (λ b. Some (index_figures b (length index.columns) ns)) q
  where
    zero_is : (k : ℕ) → 0 + k ≡ k
    zero_is k = omega arith

-- all of them
pub figures_are : (schema : Schema) (unique : List Bool) (database : Database) (percent : ℕ)
    (tables : List ℕ) (indexes counted : List (List ℕ)) (unordered : List Bool)
    → tables ≡ rows_of_tables percent (length schema.tables) database
    → counted ≡ map (counts_of percent database) schema.indexes
    → indexes ≡ figures_of_indexes unique 0 schema.indexes counted → unordered ≡ []
    → ◌≡◌ {A = Figures} (record {
      tables = tables;
      indexes = indexes;
      counted = counted;
      unordered = unordered;
    })
    (figures schema unique database percent)
figures_are schema unique database percent tables indexes counted unordered e f g h =
    rw (h, g, e, f) refl

pub given_are : (names : Names) (rows : List Given) (schema : Schema) (unique : List Bool)
    (database : Database) (percent : ℕ) (slots : List (Option Counts)) (sampled tables : List ℕ)
    (indexes counted : List (List ℕ)) (unordered : List Bool)
    → slots ≡ given_of_indexes names rows schema.indexes names.indexes
    → sampled ≡ rows_of_tables percent (length schema.tables) database
    → tables ≡ given_tables names rows schema.indexes slots 0 sampled
    → counted ≡ each_or numbers_or (map (counts_of percent database) schema.indexes) slots
    → indexes ≡ figures_of_indexes unique 0 schema.indexes counted
    → unordered ≡ map tells_unordered slots
    → ◌≡◌ {A = Figures} (record {
      tables = tables;
      indexes = indexes;
      counted = counted;
      unordered = unordered;
    })
    (given_figures names rows schema.indexes (figures schema unique database percent))
given_are names rows schema unique database percent slots sampled tables indexes counted unordered
    s t e f g h =
    let all = each_figures unique 0 schema.indexes
    (map (counts_of percent database) schema.indexes) slots
    (subst (AllByRecursion HasNumbers) (sym s)
    (given_has names rows schema.indexes names.indexes)) in
    rw (h, g, e, f, t, ← all, s) refl

-- all of them, as they are made
pub figures_by : (schema : Held) (rows first second : List (List Row)) (percent : ℕ)
    (tables : List ℕ) (third indexes counted : List (List ℕ)) (unordered : List Bool)
    → length rows ≡ length schema.tables
    → first ≡ rows → second ≡ rows → third ≡ counted
    → tables ≡ rows_of_tables percent (length first) (plain_database first)
    → counted
    ≡ each_or numbers_or
    (map (counts_of percent (plain_database second)) (plain_schema schema).indexes) []
    → indexes ≡ figures_of_indexes (uniques schema) 0 (plain_schema schema).indexes third
    → unordered ≡ []
    → ◌≡◌ {A = Figures} (record {
      tables = tables;
      indexes = indexes;
      counted = counted;
      unordered = unordered;
    })
    (figures (plain_schema schema) (uniques schema) (plain_database rows) percent)
figures_by schema rows first second percent tables third indexes counted unordered long a b c e f g
    h =
    let database = plain_database rows in
    figures_are (plain_schema schema) (uniques schema) database percent tables indexes counted
    unordered
    (e ∙ ap (λ rs. rows_of_tables percent (length rs) (plain_database rs)) a
    ∙ ap (λ n. rows_of_tables percent n database)
    (long ∙ sym (length-map schema.tables plain_table)))
    (f ∙ each_none numbers_or _
    ∙ ap (λ rs. map (counts_of percent (plain_database rs)) (plain_schema schema).indexes) b)
    (g ∙ ap (figures_of_indexes (uniques schema) 0 (plain_schema schema).indexes) c) h

pub given_by : (schema : Held) (names : Names) (given : List Given)
    (rows first second : List (List Row)) (percent : ℕ)
    (slots : List (Option Counts)) (sampled tables : List ℕ)
    (third indexes counted : List (List ℕ)) (unordered : List Bool)
    → length rows ≡ length schema.tables
    → first ≡ rows → second ≡ rows → third ≡ counted
    → slots ≡ given_of_indexes names given (plain_schema schema).indexes names.indexes
    → sampled ≡ rows_of_tables percent (length first) (plain_database first)
    → tables ≡ given_tables names given (plain_schema schema).indexes slots 0 sampled
    → counted
    ≡ each_or numbers_or
    (map (counts_of percent (plain_database second)) (plain_schema schema).indexes) slots
    → indexes ≡ figures_of_indexes (uniques schema) 0 (plain_schema schema).indexes third
    → unordered ≡ map tells_unordered slots
    → ◌≡◌ {A = Figures} (record {
      tables = tables;
      indexes = indexes;
      counted = counted;
      unordered = unordered;
    })
    (given_figures names given (plain_schema schema).indexes
    (figures (plain_schema schema) (uniques schema) (plain_database rows) percent))
given_by schema names given rows first second percent slots sampled tables third indexes counted
    unordered long a b c s d e f g h =
    let database = plain_database rows in
    given_are names given (plain_schema schema) (uniques schema) database percent slots sampled
    tables indexes counted unordered s
    (d ∙ ap (λ rs. rows_of_tables percent (length rs) (plain_database rs)) a
    ∙ ap (λ n. rows_of_tables percent n database)
    (long ∙ sym (length-map schema.tables plain_table))) e
    (f
    ∙ ap
    (λ rs. each_or numbers_or
    (map (counts_of percent (plain_database rs)) (plain_schema schema).indexes) slots) b)
    (g ∙ ap (figures_of_indexes (uniques schema) 0 (plain_schema schema).indexes) c) h

-- figures that are made for a schema, and small
pub counted_fit : (schema : Schema) (unique : List Bool) (database : Database) (percent : ℕ)
    (all : Figures) → all ≡ figures schema unique database percent
    → AreOfSchema schema all × AreSmall all
counted_fit schema unique database percent all e =
    subst (λ (f : Figures). AreOfSchema schema f × AreSmall f) (sym e)
    (counted_figures_fit schema unique database percent)

pub given_fit : (names : Names) (given : List Given) (schema : Schema) (unique : List Bool)
    (database : Database) (percent : ℕ) (all : Figures)
    → all ≡ given_figures names given schema.indexes (figures schema unique database percent)
    → AreOfSchema schema all × AreSmall all
given_fit names given schema unique database percent all e =
    let fit = counted_figures_fit schema unique database percent in
    subst (λ (f : Figures). AreOfSchema schema f × AreSmall f) (sym e)
    (given_figures_fit schema names given (figures schema unique database percent) fit.0 fit.1)

numbers_length : (s n : ℕ) → length (numbers_from s n) ≡ n
numbers_length s zero = refl
numbers_length s (suc n) = ap suc (numbers_length (s + 1) n)

pub rows_length : (percent n : ℕ) (database : Database)
    → length (rows_of_tables percent n database) ≡ n
rows_length percent n database = length-map (numbers_from 0 n) _ ∙ numbers_length 0 n
