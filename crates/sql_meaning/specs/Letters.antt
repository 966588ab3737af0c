-- Letters of names and texts, as bytes.
use Rattle.std.specs.Prelude.{ℕ, ◌+◌, ◌&&◌, cond, nat_le, List, map}

-- the byte with `A` to `Z` made lower: names, and texts under NOCASE, compare so
abbrev pub folded : ℕ → ℕ
folded byte = cond (nat_le 65 byte && nat_le byte 90) (byte + 32) byte

-- a name or a text with its letters made lower
abbrev pub folded_bytes : List ℕ → List ℕ
folded_bytes = map folded
