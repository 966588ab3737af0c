-- The exit statuses.
use Rattle.std.specs.Prelude.{ℕ, Bool, ◌==◌, ◌||◌}

-- the whole report was written, and each statement has a plan
abbrev pub all_planned : ℕ
all_planned = 0

-- the words are no command
abbrev pub usage : ℕ
usage = 1

-- the database or the script passes a limit, or isn't in a form that is read
abbrev pub input_refused : ℕ
input_refused = 2

-- the whole report was written, and it refuses some statement
abbrev pub some_refused : ℕ
some_refused = 3

-- a file can't be read
abbrev pub cannot_read : ℕ
cannot_read = 4

-- the report can't be written
abbrev pub cannot_write : ℕ
cannot_write = 5

-- memory was wanting before the first write
abbrev pub out_of_memory : ℕ
out_of_memory = 6

-- the whole report was written
abbrev pub is_report : ℕ → Bool
is_report status = status == all_planned || status == some_refused
