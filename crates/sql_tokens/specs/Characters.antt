-- Kinds of bytes.
use Rattle.std.specs.Prelude.{ℕ, Bool, ◌==◌, ◌||◌, nat_le}
use Rattle.std.specs.Char.{is_ascii_digit, is_ascii_alphabetic}

-- space, tab, line feed, form feed, carriage return
abbrev pub is_space_byte : ℕ → Bool
is_space_byte b = b == 32 || b == 9 || b == 10 || b == 12 || b == 13

-- a letter, `_` or a byte from 0x80
abbrev pub is_word_start : ℕ → Bool
is_word_start b = is_ascii_alphabetic b || b == 95 || nat_le 128 b

-- besides these a digit or `$`
abbrev pub is_word_byte : ℕ → Bool
is_word_byte b = is_ascii_alphabetic b || is_ascii_digit b || b == 95 || b == 36 || nat_le 128 b
