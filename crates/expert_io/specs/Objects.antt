-- What the objects in memory are seen as.
use Rattle.std.specs.Prelude.{ℕ, ◌+◌, ◌-◌, ◌^◌, min, List, Contains}
use Rattle.expert_io.specs.Told.{File}

-- files in memory; `left` is what reads of the file that was opened last will still give, `calls`
-- the calls so far
pub record Shelved : Type 0 where
  pub files : List File
  pub failing : List ℕ
  pub most : ℕ
  pub left : List ℕ
  pub calls : ℕ
  pub faults : ℕ

-- bytes in memory, within a room
pub record Sunk : Type 0 where
  pub written : List ℕ
  pub room : ℕ
  pub failing : List ℕ
  pub most : ℕ
  pub calls : ℕ
  pub faults : ℕ

-- one more, where the count can hold it
abbrev pub raised : ℕ → ℕ
raised count = min (count + 1) (2 ^ 64 - 1)

-- the next call is one of those that are to fail
abbrev pub IsListed : ℕ → List ℕ → Type 0
IsListed calls failing = Contains failing (raised calls)
