-- What stands round a place, and tests of places.
use Rattle.std.specs.Prelude.{Bool, false, ◌||◌, Option, None, Some, List, [], ◌∷◌, slice_get}
use Rattle.sql_tokens.specs.declared.terminal.Terminal.{Terminal}
use Rattle.sql_lex.specs.declared.contexts.Context.{Context}

-- the context of the first of these, in a statement that begins so, behind this one
abbrev pub context_of : Option Terminal → Option Terminal → List Terminal → Context
context_of first before ts = record {
  first = first;
  before = before;
  here = slice_get ts 0;
  next = slice_get ts 1;
  second = slice_get ts 2;
  third = slice_get ts 3;
  fourth = slice_get ts 4;
}

-- the context of the place behind, where this comes into sight
abbrev pub context_behind : Context → Option Terminal → Context
context_behind context newest = record {
  first = context.first;
  before = context.here;
  here = context.next;
  next = context.second;
  second = context.third;
  third = context.fourth;
  fourth = newest;
}

-- a test holds at some place; the first of these stands behind `before`
abbrev pub fits_in : Option Terminal → Option Terminal → List Terminal → (Context → Bool) → Bool
fits_in first before [] test = false
fits_in first before (t ∷ ts) test =
    test (context_of first before (t ∷ ts)) || fits_in first (Some t) ts test

-- a test holds at some place of a statement
abbrev pub somewhere : (Context → Bool) → List Terminal → Bool
somewhere test ts = fits_in (slice_get ts 0) None ts test
