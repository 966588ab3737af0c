-- What may be kept from one step of the search to the next, instead of being made anew.
use Rattle.std.specs.Prelude.{◌≡◌, List, [], ◌∷◌, ◌++◌}
use Rattle.sql_meaning.specs.Schemas.{Schema}
use Rattle.sql_meaning.specs.Statements.{Bound, SortKey}
use Rattle.sql_meaning.specs.Plans.{Loop}
use Rattle.sql_meaning.specs.OrderState.{state, pass_loop}
use Rattle.sql_meaning.specs.TermLists.{terms_of}
use Rattle.plan_choice.specs.Settings.{Statement}
use Rattle.plan_choice.specs.Advice.{Request, full_schema}

-- a prefix may carry its order state: one loop more makes of it what its own step does
abbrev pub StatesGoOn : Type 0
StatesGoOn =
    (schema : Schema) (bound : Bound) (loops : List Loop) (loop : Loop) (keys : List SortKey)
    → state schema bound (loops ++ loop ∷ []) keys
    ≡ pass_loop schema bound (state schema bound loops keys) loop

-- candidates change no term, so the terms that scans are made of are those that plans are made of
abbrev pub TermsAreOfTables : Type 0
TermsAreOfTables =
    (r : Request) (statement : Statement)
    → terms_of (full_schema r) statement.bound ≡ terms_of r.schema statement.bound
