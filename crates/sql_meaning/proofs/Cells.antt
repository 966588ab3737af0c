-- The value of an expression depends on the cells of the items that it names, and so do walks.
use Rattle.std.proofs.Common.{◌≡◌, ℕ, List, [], ◌∷◌, ◌++◌, Option, Some, None, refl, ap, ap₂, ◌∙◌}
use Rattle.std.proofs.Common.{map}
use Rattle.list_laws.specs.Nest.{Agree}
use Rattle.list_laws.specs.FirstComing.{keep_first}
use Rattle.list_laws.proofs.Lists.{all_map, all_always}
use Rattle.sql_meaning.specs.Values.{Value}
use Rattle.sql_meaning.specs.Conversions.{converted_by}
use Rattle.sql_meaning.specs.Truth.{truth3}
use Rattle.sql_meaning.specs.Likes.{like3}
use Rattle.sql_meaning.specs.Rows.{Assignment, Site, AtRowid, AtColumn, row_value, cell, Row}
use Rattle.sql_meaning.specs.Schemas.{Schema}
use Rattle.sql_meaning.specs.Expressions.{BExpr, Lit, Param, Column, Rowid, Plus, Collate, Cmp}
use Rattle.sql_meaning.specs.Expressions.{OneOf, Like, IsNull, Not, All, Any, BExprs, Nil, More}
use Rattle.sql_meaning.specs.Expressions.{names, all_names}
use Rattle.sql_meaning.specs.Evaluation.{compare3, not3, negated_if, from_truth, one_of3, all3}
use Rattle.sql_meaning.specs.Evaluation.{any3, ev, evs}
use Rattle.sql_meaning.specs.CellLaws.{SameCells, ValuesDependOnCells, WalksDependOnCells}
use Rattle.sql_meaning.specs.Paths.{KeyExpr, key_value, EqPart, OneKey, ManyKeys, NullKey, Edge}
use Rattle.sql_meaning.specs.Paths.{part_value, end_value, SeekForm, form_of, form_walk, path_list}
use Rattle.sql_meaning.specs.Paths.{Path, TableScan, RowidEq, RowidRange, IndexScan, IndexSeek}
use Rattle.sql_meaning.specs.Paths.{Union, Paths, Nowhere, Then, same_rowid, walk, walks}

cells_front : (is js : List ℕ) (env a : Assignment) → SameCells (is ++ js) env a
    → SameCells is env a
cells_front [] js env a h = tt
cells_front (i ∷ is) js env a h = (h.0, cells_front is js env a h.1)

cells_back : (is js : List ℕ) (env a : Assignment) → SameCells (is ++ js) env a
    → SameCells js env a
cells_back [] js env a h = h
cells_back (i ∷ is) js env a h = cells_back is js env a h.1

-- the value of an expression depends on the cells of the items that it names, and on no other
mutual
  pub ev_cells : (params : List Value) (e : BExpr) (env a : Assignment)
      → SameCells (names e) env a → ev a params e ≡ ev env params e
  ev_cells params (Lit v) env a h = refl
  ev_cells params (Param number) env a h = refl
  ev_cells params (Column item column) env a h = h.0 (AtColumn column)
  ev_cells params (Rowid item) env a h = h.0 AtRowid
  ev_cells params (Plus e) env a h = ev_cells params e env a h
  ev_cells params (Collate e collation) env a h = ev_cells params e env a h
  ev_cells params (Cmp op left right left_conversion right_conversion collation) env a h =
      ap
      (λ v. from_truth
      (compare3 op collation (converted_by left_conversion v)
      (converted_by right_conversion (ev a params right))))
      (ev_cells params left env a (cells_front (names left) (names right) env a h))
      ∙ ap
      (λ v. from_truth
      (compare3 op collation (converted_by left_conversion (ev env params left))
      (converted_by right_conversion v)))
      (ev_cells params right env a (cells_back (names left) (names right) env a h))
  ev_cells params (OneOf negated left entries entry_conversion collation) env a h =
      ap
      (λ v. from_truth
      (negated_if negated
      (one_of3 collation v (map (converted_by entry_conversion) (evs a params entries)))))
      (ev_cells params left env a (cells_front (names left) (all_names entries) env a h))
      ∙ ap
      (λ vs. from_truth
      (negated_if negated
      (one_of3 collation (ev env params left) (map (converted_by entry_conversion) vs))))
      (evs_cells params entries env a (cells_back (names left) (all_names entries) env a h))
  ev_cells params (Like negated e pattern) env a h =
      ap (λ v. from_truth (negated_if negated (like3 v (ev a params pattern))))
      (ev_cells params e env a (cells_front (names e) (names pattern) env a h))
      ∙ ap (λ v. from_truth (negated_if negated (like3 (ev env params e) v)))
      (ev_cells params pattern env a (cells_back (names e) (names pattern) env a h))
  ev_cells params (IsNull negated e) env a h = rw (ev_cells params e env a h) refl
  ev_cells params (Not e) env a h =
      ap (λ v. from_truth (not3 (truth3 v))) (ev_cells params e env a h)
  ev_cells params (All es) env a h = ap (λ vs. from_truth (all3 vs)) (evs_cells params es env a h)
  ev_cells params (Any es) env a h = ap (λ vs. from_truth (any3 vs)) (evs_cells params es env a h)

  pub evs_cells : (params : List Value) (es : BExprs) (env a : Assignment)
      → SameCells (all_names es) env a → evs a params es ≡ evs env params es
  evs_cells params Nil env a h = refl
  evs_cells params (More e es) env a h =
      ap (λ v. v ∷ evs a params es)
      (ev_cells params e env a (cells_front (names e) (all_names es) env a h))
      ∙ ap (λ vs. ev env params e ∷ vs)
      (evs_cells params es env a (cells_back (names e) (all_names es) env a h))

-- rows that agree have the same cells
pub agreeing_cells : (items : List ℕ) (env a : Assignment) → Agree items env a
    → SameCells items env a
agreeing_cells items env a h = all_map _ _ items (λ i e site. ap (row_value site) e) h

-- the same cells of all items
abbrev Cells : Assignment → Assignment → Type 0
Cells env a = (item : ℕ) (site : Site) → cell a item site ≡ cell env item site

key_cells : (params : List Value) (k : KeyExpr) (env a : Assignment) → Cells env a
    → key_value a params k ≡ key_value env params k
key_cells params k env a h =
    ap (converted_by k.conversion)
    (ev_cells params k.expr env a (all_always _ (names k.expr) (λ i. h i)))

keys_cells : (params : List Value) (ks : List KeyExpr) (env a : Assignment) → Cells env a
    → map (key_value a params) ks ≡ map (key_value env params) ks
keys_cells params [] env a h = refl
keys_cells params (k ∷ ks) env a h =
    ap₂ (λ v vs. v ∷ vs) (key_cells params k env a h) (keys_cells params ks env a h)

parts_cells : (params : List Value) (ps : List EqPart) (env a : Assignment) → Cells env a
    → map (part_value a params) ps ≡ map (part_value env params) ps
parts_cells params [] env a h = refl
parts_cells params (OneKey k ∷ ps) env a h =
    rw (key_cells params k env a h, parts_cells params ps env a h) refl
parts_cells params (ManyKeys ks ∷ ps) env a h =
    rw (keys_cells params ks env a h, parts_cells params ps env a h) refl
parts_cells params (NullKey ∷ ps) env a h = rw (parts_cells params ps env a h) refl

end_cells : (params : List Value) (e : Option Edge) (env a : Assignment) → Cells env a
    → end_value a params e ≡ end_value env params e
end_cells params None env a h = refl
end_cells params (Some e) env a h = rw (key_cells params e.key env a h) refl

form_cells : (f : SeekForm) (params : List Value) (rows : List Row) (env a : Assignment)
    → Cells env a → form_walk f params a rows ≡ form_walk f params env rows
form_cells f params rows env a h =
    rw (
      parts_cells params f.eqs env a h,
      end_cells params f.low env a h,
      end_cells params f.high env a h,
    ) refl

mutual
  walk_cells : (schema : Schema) (params : List Value) (path : Path) (rows : List Row)
      (env a : Assignment)
      → Cells env a → walk schema params path rows a ≡ walk schema params path rows env
  walk_cells schema params TableScan rows env a h =
      form_cells (form_of schema TableScan) params (path_list schema TableScan rows) env a h
  walk_cells schema params (RowidEq part) rows env a h =
      form_cells (form_of schema (RowidEq part)) params (path_list schema (RowidEq part) rows) env a
      h
  walk_cells schema params (RowidRange low high) rows env a h =
      form_cells (form_of schema (RowidRange low high)) params
      (path_list schema (RowidRange low high) rows) env a h
  walk_cells schema params (IndexScan index) rows env a h =
      form_cells (form_of schema (IndexScan index)) params (path_list schema (IndexScan index) rows)
      env a h
  walk_cells schema params (IndexSeek index eqs low high) rows env a h =
      form_cells (form_of schema (IndexSeek index eqs low high)) params
      (path_list schema (IndexSeek index eqs low high) rows) env a h
  walk_cells schema params (Union branches) rows env a h =
      ap (keep_first same_rowid []) (walks_cells schema params branches rows env a h)

  walks_cells : (schema : Schema) (params : List Value) (paths : Paths) (rows : List Row)
      (env a : Assignment)
      → Cells env a → walks schema params paths rows a ≡ walks schema params paths rows env
  walks_cells schema params Nowhere rows env a h = refl
  walks_cells schema params (Then path paths) rows env a h =
      ap₂ (λ xs ys. xs ++ ys) (walk_cells schema params path rows env a h)
      (walks_cells schema params paths rows env a h)

pub values_depend_on_cells : ValuesDependOnCells
values_depend_on_cells = ev_cells

pub walks_depend_on_cells : WalksDependOnCells
walks_depend_on_cells = walk_cells
