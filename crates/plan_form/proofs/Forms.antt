-- A path is walked by its form, along the list that it goes along; a union by its branches.
use Rattle.std.proofs.Common.{◌≡◌, ℕ, Option, None, Some, List, [], ◌∷◌, ◌++◌, refl, ap, sym}
use Rattle.std.proofs.Common.{◌∙◌, map, append-nil}
use Rattle.std.specs.Option.{option_copied}
use Rattle.list_laws.specs.FirstComing.{keep_first}
use Rattle.sql_value.specs.View.{plain_value}
use Rattle.sql_meaning.specs.Values.{Value}
use Rattle.sql_meaning.specs.Rows.{Row, Assignment}
use Rattle.sql_meaning.specs.Schemas.{Schema}
use Rattle.sql_meaning.specs.Walks as walks
use Rattle.sql_meaning.specs.IndexLists.{SortColumn}
use Rattle.sql_meaning.specs.Paths.{Path, Paths, TableScan, RowidEq, RowidRange, IndexScan, IndexSeek}
use Rattle.sql_meaning.specs.Paths.{Union, Nowhere, Then, form_of, form_walk, path_list, part_value}
use Rattle.sql_meaning.specs.Paths.{end_value, walk, walks, is_union, same_rowid}
use Rattle.sql_meaning.specs.Fitting.{FitsTable, AreSeeksOf, IsSeekOf}
use Rattle.path_walks.specs.Ends.{plain_end}
use Rattle.path_walks.specs.declared.ends.End.{End}
use Rattle.plan_form.specs.Paths as view
use Rattle.plan_form.specs.declared.path.Path.{Path as BorrowedPath}
use Rattle.plan_form.specs.Seeks.{owned_end, keys_form, lent_paths, paths_of, walked_paths}
use Rattle.plan_form.specs.LoopRows.{branch_rows, kept_rows}
use denote.Ref.{Bor}

pub end_seen : (lent : Option (Bor End)) (end : Option End) → option_copied lent ≡ end
    → plain_end lent ≡ owned_end end
end_seen None None e = refl
end_seen None (Some x) e = absurd (cc)
end_seen (Some b) None e = absurd (cc)
end_seen (Some b) (Some x) e =
    let same : b.now ≡ x = some_is b.now x e in
    ap
    (λ y. Some (record { key = plain_value y.key; inclusive = y.inclusive })) same
  where
    some_is : (a b : End) → Some a ≡ Some b → a ≡ b
    some_is a b e = cc

-- a seek by the keys of a path, along the columns that it goes along, is its walk
pub seek_is : (schema : Schema) (path : Path) (params : List Value) (env : Assignment)
    (columns : List SortColumn) (rows : List Row) → columns ≡ (form_of schema path).columns
    → walks.seek columns (map (part_value env params) (keys_form path).eqs)
    (end_value env params (keys_form path).low) (end_value env params (keys_form path).high) rows
    ≡ form_walk (form_of schema path) params env rows
seek_is schema TableScan params env columns rows e =
    ap (λ ss. walks.seek ss [] None None rows) e
seek_is schema (RowidEq part) params env columns rows e =
    ap (λ ss. walks.seek ss (part_value env params part ∷ []) None None rows) e
seek_is schema (RowidRange low high) params env columns rows e =
    ap (λ ss. walks.seek ss [] (end_value env params low) (end_value env params high) rows) e
seek_is schema (IndexScan index) params env columns rows e =
    ap (λ ss. walks.seek ss [] None None rows) e
seek_is schema (IndexSeek index eqs low high) params env columns rows e =
    ap
    (λ ss. walks.seek ss (map (part_value env params) eqs) (end_value env params low)
    (end_value env params high) rows) e
seek_is schema (Union branches) params env columns rows e =
    ap (λ ss. walks.seek ss [] None None rows) e

branch_is : (schema : Schema) (table : ℕ) (params : List Value) (path : Path) (rows : List Row)
    (env : Assignment) → IsSeekOf schema table path
    → walk schema params path rows env
    ≡ form_walk (form_of schema path) params env (path_list schema path rows)
branch_is schema table params TableScan rows env h = absurd h
branch_is schema table params (RowidEq part) rows env h = refl
branch_is schema table params (RowidRange low high) rows env h = refl
branch_is schema table params (IndexScan index) rows env h = absurd h
branch_is schema table params (IndexSeek index eqs low high) rows env h = refl
branch_is schema table params (Union branches) rows env h = absurd h

branches_are : (schema : Schema) (table : ℕ) (params : List Value) (paths : Paths)
    (rows : List Row) (env : Assignment) → AreSeeksOf schema table paths
    → walks schema params paths rows env ≡ branch_rows schema params (paths_of paths) rows env
branches_are schema table params Nowhere rows env h = refl
branches_are schema table params (Then path paths) rows env h =
    ap (λ l. l ++ walks schema params paths rows env)
    (branch_is schema table params path rows env h.0)
    ∙ ap
    (λ l. form_walk (form_of schema path) params env (path_list schema path rows) ++ l)
    (branches_are schema table params paths rows env h.1)

pub walk_is_by_branches : (schema : Schema) (table : ℕ) (params : List Value) (path : Path)
    (rows : List Row) (env : Assignment) → FitsTable schema table path
    → kept_rows (is_union path) (branch_rows schema params (walked_paths path) rows env)
    ≡ walk schema params path rows env
walk_is_by_branches schema table params TableScan rows env h = append-nil _
walk_is_by_branches schema table params (RowidEq part) rows env h = append-nil _
walk_is_by_branches schema table params (RowidRange low high) rows env h = append-nil _
walk_is_by_branches schema table params (IndexScan index) rows env h = append-nil _
walk_is_by_branches schema table params (IndexSeek index eqs low high) rows env h = append-nil _
walk_is_by_branches schema table params (Union branches) rows env h =
    ap (keep_first same_rowid []) (sym (branches_are schema table params branches rows env h))

listed : (ps : List Path) → paths_of (view.paths ps) ≡ ps
listed [] = refl
listed (p ∷ ps) = ap (λ l. p ∷ l) (listed ps)

pub paths_listed : (list : List (Bor BorrowedPath))
    → paths_of (view.paths (map (λ branch. view.path_of branch.now) list)) ≡ lent_paths list
paths_listed list = listed (map (λ branch. view.path_of branch.now) list)
