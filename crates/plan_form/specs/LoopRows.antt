-- Rows of loops, and of paths by their branches.
use Rattle.std.specs.Prelude.{◌≡◌, ℕ, Bool, cond, List, [], Some}
use Rattle.std.specs.List.{flat_map, slice_get}
use Rattle.list_laws.specs.FirstComing.{keep_first}
use Rattle.sql_meaning.specs.Values.{Value}
use Rattle.sql_meaning.specs.Rows.{Row, Assignment}
use Rattle.sql_meaning.specs.Schemas.{Schema}
use Rattle.sql_meaning.specs.Paths.{Path, same_rowid, is_union, form_of, form_walk, path_list}
use Rattle.sql_meaning.specs.Plans.{Loop, directed_walk}
use Rattle.plan_form.specs.Seeks.{walked_paths}

-- a row of a list
pub record IsRowIn (rows : List Row) (row : Row) : Type 0 where
  pub number : ℕ
  pub is : slice_get rows number ≡ Some row

-- the rows of each path in turn
abbrev pub branch_rows : Schema → List Value → List Path → List Row → Assignment → List Row
branch_rows schema params paths rows env =
    flat_map (λ path. form_walk (form_of schema path) params env (path_list schema path rows)) paths

-- of a union, each row at its first coming
abbrev pub kept_rows : Bool → List Row → List Row
kept_rows union rows = cond union (keep_first same_rowid [] rows) rows

-- the rows of a loop before what is tested there, by the branches of its path
abbrev pub walked_rows : Schema → List Value → Loop → List Row → Assignment → List Row
walked_rows schema params loop rows env =
    directed_walk loop.reverse
    (kept_rows (is_union loop.path)
    (branch_rows schema params (walked_paths loop.path) rows env))
