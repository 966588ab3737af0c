-- The affinity of a column, by its declared type (datatype3, 3.1).
use Rattle.std.specs.Prelude.{ℕ, Bool, true, false, ◌&&◌, ◌||◌, ◌==◌, if◌then◌else◌, List, [], ◌∷◌}
use Rattle.std.specs.Prelude.{length, codes}
use Rattle.sql_meaning.specs.Letters.{folded_bytes}
use Rattle.sql_meaning.specs.Values.{Affinity, Integer, Real, Numeric, TextAffinity, BlobAffinity}

abbrev pub begins_with : List ℕ → List ℕ → Bool
begins_with [] bytes = true
begins_with (w ∷ ws) [] = false
begins_with (w ∷ ws) (b ∷ bs) = b == w && begins_with ws bs

-- whether a word of one byte or more stands somewhere in a text
abbrev pub holds_word : List ℕ → List ℕ → Bool
holds_word word [] = false
holds_word word (b ∷ bs) = begins_with word (b ∷ bs) || holds_word word bs

-- the first rule that fits, whatever the case of the letters
abbrev pub affinity_of_folded : List ℕ → Affinity
affinity_of_folded type =
    if holds_word (codes "int") type then Integer else (
    if holds_word (codes "char") type || holds_word (codes "clob") type
    || holds_word (codes "text") type
    then TextAffinity else (
    if holds_word (codes "blob") type || length type == 0 then BlobAffinity else (
    if holds_word (codes "real") type || holds_word (codes "floa") type
    || holds_word (codes "doub") type
    then Real else Numeric)))

abbrev pub affinity_of : List ℕ → Affinity
affinity_of declared = affinity_of_folded (folded_bytes declared)
