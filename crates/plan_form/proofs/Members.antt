-- Each row of a walk is one of the rows that were walked.
use Rattle.std.proofs.Common.{Bool, true, false, cond, ◌||◌, Option, None, Some, List, [], ◌∷◌}
use Rattle.std.proofs.Common.{sym, reverse, subst}
use Rattle.std.specs.List.{AllByRecursion}
use Rattle.std.proofs.lemmas.List.{reverse-append}
use Rattle.list_laws.specs.Stretch.{drop_while, take_until, stretch}
use Rattle.list_laws.proofs.Lists.{all_always, all_append, all_flat_map, all_from_at}
use Rattle.list_laws.proofs.FirstComings.{all_keep}
use Rattle.list_laws.proofs.SortedViews.{all_sort}
use Rattle.sql_meaning.specs.Values.{Value, Collation, Null, is_null}
use Rattle.sql_meaning.specs.Rows.{Row, Assignment, Site}
use Rattle.sql_meaning.specs.Schemas.{Schema}
use Rattle.sql_meaning.specs.IndexLists.{SortColumn, entry_cmp, sort_columns}
use Rattle.sql_meaning.specs.Walks.{End, Part, One, Many, NullPart, seek, bounds_walk, range_walk}
use Rattle.sql_meaning.specs.Walks.{key_stretch, walked_keys}
use Rattle.sql_meaning.specs.Paths.{Path, TableScan, RowidEq, RowidRange, IndexScan, IndexSeek, Union}
use Rattle.sql_meaning.specs.Paths.{form_of, path_list, same_rowid, is_union}
use Rattle.sql_meaning.specs.Plans.{Loop, directed_walk}
use Rattle.plan_form.specs.LoopRows.{IsRowIn, branch_rows, kept_rows, walked_rows}
use Rattle.plan_form.specs.Seeks.{walked_paths}

module _ (P : Row → Type 0) where
  all_if : (b : Bool) (xs : List Row) → AllByRecursion P xs → AllByRecursion P (cond b [] xs)
  all_if true xs h = tt
  all_if false xs h = h

  drop_case : (b : Bool) (x : Row) (xs ys : List Row) → P x → AllByRecursion P xs
      → AllByRecursion P ys → AllByRecursion P (cond b ys (x ∷ xs))
  drop_case true x xs ys p h k = k
  drop_case false x xs ys p h k = (p, h)

  all_drop : (before : Row → Bool) (xs : List Row) → AllByRecursion P xs
      → AllByRecursion P (drop_while before xs)
  all_drop before [] h = tt
  all_drop before (x ∷ xs) h =
      drop_case (before x) x xs (drop_while before xs) h.0 h.1 (all_drop before xs h.1)

  take_case : (b : Bool) (x : Row) (ys : List Row) → P x → AllByRecursion P ys
      → AllByRecursion P (cond b [] (x ∷ ys))
  take_case true x ys p h = tt
  take_case false x ys p h = (p, h)

  all_take : (past : Row → Bool) (xs : List Row) → AllByRecursion P xs
      → AllByRecursion P (take_until past xs)
  all_take past [] h = tt
  all_take past (x ∷ xs) h = take_case (past x) x (take_until past xs) h.0 (all_take past xs h.1)

  all_stretch : (before past : Row → Bool) (xs : List Row) → AllByRecursion P xs
      → AllByRecursion P (stretch before past xs)
  all_stretch before past xs h = all_take past (drop_while before xs) (all_drop before xs h)

  all_range : (falling : Bool) (collation : Collation) (site : Site) (low high : Option End)
      (rows : List Row) → AllByRecursion P rows
      → AllByRecursion P (range_walk falling collation site low high rows)
  all_range true collation site low high rows h = all_stretch _ _ rows h
  all_range false collation site low high rows h = all_stretch _ _ rows h

  all_bounds : (s : SortColumn) (low high : Option End) (rows : List Row) → AllByRecursion P rows
      → AllByRecursion P (bounds_walk s low high rows)
  all_bounds s None None rows h = h
  all_bounds s None (Some high) rows h =
      all_if (is_null high.key) _ (all_range s.falling s.collation s.site None (Some high) rows h)
  all_bounds s (Some low) None rows h =
      all_if (is_null low.key) _ (all_range s.falling s.collation s.site (Some low) None rows h)
  all_bounds s (Some low) (Some high) rows h =
      all_if (is_null low.key || is_null high.key) _
      (all_range s.falling s.collation s.site (Some low) (Some high) rows h)

  all_seek : (ss : List SortColumn) (parts : List Part) (low high : Option End) (rows : List Row)
      → AllByRecursion P rows → AllByRecursion P (seek ss parts low high rows)
  all_seek [] parts low high rows h = h
  all_seek (s ∷ ss) [] low high rows h = all_bounds s low high rows h
  all_seek (s ∷ ss) (One key ∷ parts) low high rows h =
      all_if (is_null key) _
      (all_seek ss parts low high (key_stretch s key rows) (all_stretch _ _ rows h))
  all_seek (s ∷ ss) (Many keys ∷ parts) low high rows h =
      all_flat_map P _ (walked_keys s keys)
      (all_always _ (walked_keys s keys)
      (λ key. all_seek ss parts low high (key_stretch s key rows) (all_stretch _ _ rows h)))
  all_seek (s ∷ ss) (NullPart ∷ parts) low high rows h =
      all_seek ss parts low high (key_stretch s Null rows) (all_stretch _ _ rows h)

  all_list : (schema : Schema) (path : Path) (rows : List Row) → AllByRecursion P rows
      → AllByRecursion P (path_list schema path rows)
  all_list schema TableScan rows h = h
  all_list schema (RowidEq part) rows h = h
  all_list schema (RowidRange low high) rows h = h
  all_list schema (IndexScan index) rows h =
      all_sort P (entry_cmp (sort_columns schema index)) rows h
  all_list schema (IndexSeek index eqs low high) rows h =
      all_sort P (entry_cmp (sort_columns schema index)) rows h
  all_list schema (Union branches) rows h = h

  all_branches : (schema : Schema) (params : List Value) (paths : List Path) (rows : List Row)
      (env : Assignment) → AllByRecursion P rows
      → AllByRecursion P (branch_rows schema params paths rows env)
  all_branches schema params paths rows env h =
      all_flat_map P _ paths
      (all_always _ paths
      (λ path. all_seek (form_of schema path).columns _ _ _ (path_list schema path rows)
      (all_list schema path rows h)))

  all_kept : (union : Bool) (rows : List Row) → AllByRecursion P rows
      → AllByRecursion P (kept_rows union rows)
  all_kept true rows h = all_keep same_rowid P rows [] h
  all_kept false rows h = h

  all_reverse : (rows : List Row) → AllByRecursion P rows → AllByRecursion P (reverse rows)
  all_reverse [] h = tt
  all_reverse (row ∷ rows) h =
      subst (AllByRecursion P) (sym (reverse-append (row ∷ []) rows))
      (all_append P (reverse rows) (row ∷ []) (all_reverse rows h.1) (h.0, tt))

  all_directed : (backward : Bool) (rows : List Row) → AllByRecursion P rows
      → AllByRecursion P (directed_walk backward rows)
  all_directed true rows h = all_reverse rows h
  all_directed false rows h = h

  all_walked : (schema : Schema) (params : List Value) (loop : Loop) (rows : List Row)
      (env : Assignment) → AllByRecursion P rows
      → AllByRecursion P (walked_rows schema params loop rows env)
  all_walked schema params loop rows env h =
      all_directed loop.reverse _
      (all_kept (is_union loop.path) _ (all_branches schema params (walked_paths loop.path) rows env h))

own_rows : (rows : List Row) → AllByRecursion (IsRowIn rows) rows
own_rows rows = all_from_at (IsRowIn rows) rows (λ k row e. record { number = k; is = e })

pub walked_members : (schema : Schema) (params : List Value) (loop : Loop) (rows : List Row)
    (env : Assignment) → AllByRecursion (IsRowIn rows) (walked_rows schema params loop rows env)
walked_members schema params loop rows env =
    all_walked (IsRowIn rows) schema params loop rows env (own_rows rows)
