-- The files that a shelf tells.
use Rattle.std.specs.Prelude.{◌≡◌, ℕ, List, [], ◌∷◌, None, Some, if◌then◌else◌, IsSomeAnd}
use Rattle.std.specs.declared.option.Option.{Option}
use Rattle.std.specs.Str.{bytes_eq}

-- a file: its name and its bytes
abbrev pub File : Type 0
File = List ℕ × List ℕ

-- what a file of this name holds: the first of a name counts
abbrev pub file_of : List File → List ℕ → Option (List ℕ)
file_of [] name = None
file_of (file ∷ files) name =
    if bytes_eq file.0 name then Some file.1 else file_of files name

-- the shelf tells its files, and has none of this name
abbrev pub Lacks : Option (List File) → List ℕ → Type 0
Lacks told name = IsSomeAnd told (λ files. file_of files name ≡ None)
