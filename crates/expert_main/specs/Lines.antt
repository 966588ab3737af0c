-- The lines that standard error gets, each with its line feed.
use Rattle.std.specs.Prelude.{List, ℕ, [], ◌∷◌, ◌++◌, codes}

abbrev pub usage_line : List ℕ
usage_line =
    codes "usage: sqlite3_expert [-sql SQL] [-file FILE] [-sample PERCENT] [-stat MODE]"
    ++ codes " [-verbose LEVEL] DATABASE" ++ 10 ∷ []

abbrev pub database_too_large_line : List ℕ
database_too_large_line = codes "sqlite3_expert: database too large" ++ 10 ∷ []

abbrev pub database_file_line : List ℕ
database_file_line = codes "sqlite3_expert: database file format not read" ++ 10 ∷ []

abbrev pub script_too_large_line : List ℕ
script_too_large_line = codes "sqlite3_expert: script too large" ++ 10 ∷ []

abbrev pub too_many_tables_line : List ℕ
too_many_tables_line = codes "sqlite3_expert: too many tables" ++ 10 ∷ []

abbrev pub cannot_read_line : List ℕ → List ℕ
cannot_read_line name = codes "sqlite3_expert: cannot read " ++ name ++ 10 ∷ []

abbrev pub cannot_write_line : List ℕ
cannot_write_line = codes "sqlite3_expert: cannot write" ++ 10 ∷ []

abbrev pub memory_line : List ℕ
memory_line = codes "sqlite3_expert: out of memory" ++ 10 ∷ []

abbrev pub too_many_candidates_line : List ℕ
too_many_candidates_line = codes "sqlite3_expert: too many candidates" ++ 10 ∷ []
