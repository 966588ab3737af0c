-- The texts of a script's pieces, which the words have or name by files.
use Rattle.std.specs.Prelude.{ℕ, ◌≡◌, ◌-◌, List, [], ◌∷◌, ◌++◌, length, nat_lt, ◌+◌}
use Rattle.std.specs.Prelude.{None, Some, Ok, Err, if◌then◌else◌}
use Rattle.std.specs.declared.option.Option.{Option}
use Rattle.std.specs.declared.result.Result.{Result}
use Rattle.expert_io.specs.Told.{File, file_of}
use Rattle.expert_main.specs.Lines.{cannot_read_line, script_too_large_line}
use Rattle.expert_main.specs.Rans.{Ran, refused}
use Rattle.expert_main.specs.Statuses.{cannot_read, input_refused}
use Rattle.expert_main.specs.Words as words
use Rattle.expert_main.specs.Words.{Piece}

-- how many bytes the pieces of a script may have together
abbrev pub script_limit : ℕ
script_limit = 4194304

-- what a file gives, or what the program does where there is none of this name
abbrev pub text_in : List ℕ → Option (List ℕ) → Result (List ℕ) Ran
text_in name None = Err (refused cannot_read (cannot_read_line name))
text_in name (Some text) = Ok text

abbrev pub text_of : List File → Piece → Result (List ℕ) Ran
text_of files (words.Sql text) = Ok text
text_of files (words.File name) = text_in name (file_of files name)

-- a text that fits into the room that is left
abbrev pub fitted : ℕ → Result (List ℕ) Ran → Result (List ℕ) Ran
fitted room (Err ran) = Err ran
fitted room (Ok text) =
    if nat_lt room (length text) then Err (refused input_refused script_too_large_line) else Ok text

-- texts before others
abbrev pub before : List (List ℕ) → Result (List (List ℕ)) Ran → Result (List (List ℕ)) Ran
before texts (Err ran) = Err ran
before texts (Ok others) = Ok (texts ++ others)

-- a text, and the others in the room that it leaves
abbrev pub first_then : ℕ → Result (List ℕ) Ran → (ℕ → Result (List (List ℕ)) Ran)
    → Result (List (List ℕ)) Ran
first_then room (Err ran) others = Err ran
first_then room (Ok text) others = before (text ∷ []) (others (room - length text))

-- the texts of the pieces in the order of the words; the first one that can't be read, or that
-- doesn't fit, ends the run
abbrev pub gathered : List File → List Piece → ℕ → Result (List (List ℕ)) Ran
gathered files [] room = Ok []
gathered files (piece ∷ pieces) room =
    first_then room (fitted room (text_of files piece)) (λ left. gathered files pieces left)

-- a text that the words have is that of its piece
abbrev pub IsOwn : Piece → List ℕ → Type 0
IsOwn (words.Sql own) text = text ≡ own
IsOwn (words.File name) text = Unit {0}

-- texts of these pieces, one of each
abbrev pub AreOf : List Piece → List (List ℕ) → Type 0
AreOf [] [] = Unit {0}
AreOf (piece ∷ pieces) (text ∷ texts) = IsOwn piece text × AreOf pieces texts
AreOf pieces texts = ⊥

-- how many bytes texts have together
abbrev pub total : List (List ℕ) → ℕ
total [] = 0
total (text ∷ texts) = length text + total texts
