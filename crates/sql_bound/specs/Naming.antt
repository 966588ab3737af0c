-- Items by bits, and what a list of named items says of a loop.
use Rattle.std.specs.Prelude.{◌≡◌, ◌==◌, ℕ, Bool, true, false, List, [], ◌∷◌, if◌then◌else◌}
use Rattle.std.specs.Int.{bit_at}
use Rattle.sql_meaning.specs.Statements.{has_number, is_empty}
use Rattle.sql_bound.specs.declared.serving.Standing.{Standing}
use Rattle.sql_bound.specs.declared.serving.Standing.TheVariants.{Free, Placed, Here, Open}

-- bit k of a mask stands for item k
abbrev pub has_item : ℕ → ℕ → Bool
has_item mask item = bit_at mask item == 1

-- the mask has the items of the list
pub record IsPlaced (mask : ℕ) (items : List ℕ) : Type 0 where
  pub each : (item : ℕ) → has_number item items ≡ has_item mask item
  pub none : is_empty items ≡ (mask == 0)

-- what two lists of named items say together
abbrev pub farther_of : Standing → Standing → Standing
farther_of Free b = b
farther_of Placed Free = Placed
farther_of Placed Placed = Placed
farther_of Placed Here = Here
farther_of Placed Open = Open
farther_of Here Free = Here
farther_of Here Placed = Here
farther_of Here Here = Here
farther_of Here Open = Open
farther_of Open b = Open

abbrev pub standing_of : ℕ → ℕ → ℕ → Standing
standing_of mask item named =
    if named == item then Here else (if has_item mask named then Placed else Open)

abbrev pub standing_all : ℕ → ℕ → List ℕ → Standing
standing_all mask item [] = Free
standing_all mask item (n ∷ ns) = farther_of (standing_of mask item n) (standing_all mask item ns)

-- whether a common conjunct of this standing is first known, where `first` says that nothing is
-- placed
abbrev pub known_by : Bool → Standing → Bool
known_by first Free = first
known_by first Placed = false
known_by first Here = true
known_by first Open = false
