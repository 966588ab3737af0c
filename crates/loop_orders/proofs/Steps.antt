-- One step of each loop over the columns and parts of a walk, or over keys.
use Rattle.std.proofs.Common.{◌≡◌, ◌<◌, ◌||◌, ℕ, zero, suc, Bool, false, List, [], ◌∷◌, refl, ap}
use Rattle.std.proofs.Common.{Option, Some, None, drop, length, arith, cond, ◌∙◌, subst, sym}
use Rattle.std.specs.Prelude.{slice_get, fold}
use Rattle.sql_meaning.specs.Rows.{Site}
use Rattle.sql_meaning.specs.Values.{Collation}
use Rattle.sql_meaning.specs.Paths.{EqPart, OneKey, ManyKeys, NullKey, RowidEq, Edge}
use Rattle.sql_meaning.specs.Paths.{IndexScan, IndexSeek}
use Rattle.sql_meaning.specs.Schemas.{IndexColumn, Schema}
use Rattle.sql_meaning.specs.OrderState as meant
use Rattle.sql_meaning.specs.OrderState.{part_held, index_positions, Position, Loses, rest_parts}
use Rattle.sql_meaning.specs.OrderState.{Passing, Leaves, pass_position}
use Rattle.sql_meaning.specs.Statements.{SortKey, Bound, item_alias}
use Rattle.sql_meaning.specs.Expressions.{bare_column}
use Rattle.loop_orders.specs.Walks.{held_by, pass_all, ties_by, ties_along, plain_columns}
use Rattle.loop_orders.specs.Walks.{plain_parts, column_position, is_held_by}
use Rattle.loop_orders.specs.Walks.{rowids_pass, loop_by}
use Rattle.loop_orders.specs.declared.held.IndexWalk.{IndexWalk}

-- a part further
pub held_step : (alias : Option ℕ) (cs : List IndexColumn) (ps : List EqPart) (n : ℕ) (site : Site)
    (collation : Collation) → n < length ps
    → part_held alias (drop n cs) (drop n ps) site collation
    ≡ held_by alias (slice_get cs n) (slice_get ps n) site collation
    || part_held alias (drop (suc n) cs) (drop (suc n) ps) site collation
held_step alias cs [] n site collation below = absurd (omega (arith, below))
held_step alias [] (p ∷ ps) zero site collation below = refl
held_step alias [] (p ∷ ps) (suc n) site collation below = refl
held_step alias (c ∷ cs) (p ∷ ps) zero site collation below = refl
held_step alias (c ∷ cs) (p ∷ ps) (suc n) site collation below =
    held_step alias cs ps n site collation (omega (arith, below))

pub none_held : (alias : Option ℕ) (cs : List IndexColumn) (site : Site) (collation : Collation)
    → part_held alias cs [] site collation ≡ false
none_held alias [] site collation = refl
none_held alias (c ∷ cs) site collation = refl

rest_dropped : (n : ℕ) (ps : List EqPart) → rest_parts (drop n ps) ≡ drop (suc n) ps
rest_dropped zero [] = refl
rest_dropped zero (p ∷ ps) = refl
rest_dropped (suc n) [] = refl
rest_dropped (suc n) (p ∷ ps) = rest_dropped n ps

none_dropped : (n : ℕ) → drop {A = EqPart} n [] ≡ []
none_dropped zero = refl
none_dropped (suc n) = refl

-- a column further
positions_step : (alias : Option ℕ) (cs : List IndexColumn) (ps : List EqPart) (n : ℕ)
    (c : IndexColumn) → slice_get cs n ≡ Some c
    → index_positions alias (drop n cs) (drop n ps)
    ≡ column_position alias c (meant.first_held (drop n ps))
    ∷ cond (meant.is_alias alias c.column) []
    (index_positions alias (drop (suc n) cs) (drop (suc n) ps))
positions_step alias [] ps n c is = absurd (let t : None ≡ Some c = is in cc)
positions_step alias (d ∷ cs) ps zero c is =
    let same : d ≡ c = cc in rw same (rw (rest_dropped zero ps) refl)
positions_step alias (d ∷ cs) [] (suc n) c is =
    subst
    (λ (qs : List EqPart). index_positions alias (drop n cs) qs
    ≡ column_position alias c (meant.first_held qs)
    ∷ cond (meant.is_alias alias c.column) [] (index_positions alias (drop (suc n) cs) []))
    (none_dropped n) (positions_step alias cs [] n c is)
positions_step alias (d ∷ cs) (p ∷ ps) (suc n) c is = positions_step alias cs ps n c is

-- what comes of a walk, a column further
pub along_step : (walk : IndexWalk) (a : Passing) (n : ℕ) (c : IndexColumn)
    → slice_get (plain_columns walk) n ≡ Some c
    → pass_all walk a
    (index_positions walk.alias (drop n (plain_columns walk)) (drop n (plain_parts walk)))
    ≡ pass_all walk
    (pass_position walk.item (ties_along walk) a
    (column_position walk.alias c (meant.first_held (drop n (plain_parts walk)))))
    (cond (meant.is_alias walk.alias c.column) []
    (index_positions walk.alias (drop (suc n) (plain_columns walk))
    (drop (suc n) (plain_parts walk))))
along_step walk a n c is =
    ap (pass_all walk a)
    (positions_step walk.alias (plain_columns walk) (plain_parts walk) n c is)

-- the part of a number, and the first one of the rest
pub first_held_at : (ps : List EqPart) (n : ℕ)
    → is_held_by (slice_get ps n) ≡ meant.first_held (drop n ps)
first_held_at [] zero = refl
first_held_at [] (suc n) = refl
first_held_at (p ∷ ps) zero = refl
first_held_at (p ∷ ps) (suc n) = first_held_at ps n

-- the step at a column leaves nothing where it is the alias of the rowid, and else what is behind
-- it
pub step_gives : (walk : IndexWalk) (a : Passing) (n : ℕ) (c : IndexColumn) (r total : Passing)
    (held alias : Bool) → slice_get (plain_columns walk) n ≡ Some c
    → held ≡ is_held_by (slice_get (plain_parts walk) n)
    → alias ≡ meant.is_alias walk.alias c.column
    → r ≡ pass_position walk.item (ties_along walk) a (column_position walk.alias c held)
    → pass_all walk a
    (index_positions walk.alias (drop n (plain_columns walk)) (drop n (plain_parts walk))) ≡ total
    → pass_all walk r
    (cond alias []
    (index_positions walk.alias (drop (suc n) (plain_columns walk))
    (drop (suc n) (plain_parts walk)))) ≡ total
step_gives walk a n c r total held alias is of_part of_column steps gives =
    ap (λ q. pass_all walk q (rest alias))
    (steps
    ∙ ap (λ h. pass_position walk.item (ties_along walk) a (column_position walk.alias c h))
    (of_part ∙ first_held_at (plain_parts walk) n))
    ∙ ap
    (λ b. pass_all walk
    (pass_position walk.item (ties_along walk) a
    (column_position walk.alias c (meant.first_held (drop n (plain_parts walk))))) (rest b))
    of_column
    ∙ sym (along_step walk a n c is) ∙ gives
  where
    rest : Bool → List Position
    rest b =
        cond b []
        (index_positions walk.alias (drop (suc n) (plain_columns walk))
        (drop (suc n) (plain_parts walk)))

-- keys that tie by either of two tests that agree
drop_same : (f g : SortKey → Bool) → ((k : SortKey) → f k ≡ g k) → (ks : List SortKey)
    → meant.drop_held f ks ≡ meant.drop_held g ks
drop_same f g h [] = refl
drop_same f g h (k ∷ ks) = rw (h k, drop_same f g h ks) refl

step_same : (item : ℕ) (f g : SortKey → Bool) → ((k : SortKey) → f k ≡ g k) → (p : Position)
    (a : Passing) → pass_position item f a p ≡ pass_position item g a p
step_same item f g h p Loses = refl
step_same item f g h p (Leaves keys direction) =
    ap (meant.pass_next item p direction) (drop_same f g h keys)

pub pass_same : (item : ℕ) (f g : SortKey → Bool) → ((k : SortKey) → f k ≡ g k)
    → (ps : List Position) (a : Passing)
    → fold (pass_position item f) a ps ≡ fold (pass_position item g) a ps
pass_same item f g h [] a = refl
pass_same item f g h (p ∷ ps) a =
    ap (λ b. fold (pass_position item f) b ps) (step_same item f g h p a)
    ∙ pass_same item f g h ps (pass_position item g a p)

-- where there are no parts, none holds a column
pub no_ties : (item : ℕ) (alias : Option ℕ) (cs : List IndexColumn) (k : SortKey)
    → ties_by item alias cs [] k
    ≡ meant.test_column item (λ site. false) (bare_column k.expr)
no_ties item alias [] k = refl
no_ties item alias (c ∷ cs) k = refl

-- a seek of rowids, by the forms of its part
pub rowids_are : (schema : Schema) (bound : Bound) (item : ℕ) (p : EqPart) (keys : List SortKey)
    → rowids_pass item p keys ≡ meant.loop_passes schema bound (loop_by item (RowidEq p)) keys
rowids_are schema bound item (OneKey key) keys = refl
rowids_are schema bound item (ManyKeys ks) keys = refl
rowids_are schema bound item NullKey keys = refl

-- a walk along a whole index
pub scan_is : (schema : Schema) (bound : Bound) (item index : ℕ) (alias : Option ℕ)
    (keys : List SortKey) → alias ≡ item_alias schema bound item
    → fold
    (pass_position item
    (ties_by item alias (meant.columns_at (slice_get schema.indexes index)) []))
    (Leaves keys None)
    (index_positions alias (meant.columns_at (slice_get schema.indexes index)) [])
    ≡ meant.loop_passes schema bound (loop_by item (IndexScan index)) keys
scan_is schema bound item index alias keys is =
    ap
    (λ (a : Option ℕ). fold
    (pass_position item (ties_by item a (meant.columns_at (slice_get schema.indexes index)) []))
    (Leaves keys None)
    (index_positions a (meant.columns_at (slice_get schema.indexes index)) [])) is
    ∙ pass_same item
    (ties_by item (item_alias schema bound item)
    (meant.columns_at (slice_get schema.indexes index)) [])
    (λ k. meant.test_column item (λ site. false) (bare_column k.expr))
    (no_ties item (item_alias schema bound item)
    (meant.columns_at (slice_get schema.indexes index)))
    (index_positions (item_alias schema bound item)
    (meant.columns_at (slice_get schema.indexes index)) []) (Leaves keys None)

-- a walk along a part of it
pub seek_is : (schema : Schema) (bound : Bound) (item index : ℕ) (eqs : List EqPart)
    (low high : Option Edge) (alias : Option ℕ) (keys : List SortKey)
    → alias ≡ item_alias schema bound item
    → fold
    (pass_position item
    (ties_by item alias (meant.columns_at (slice_get schema.indexes index)) eqs))
    (Leaves keys None)
    (index_positions alias (meant.columns_at (slice_get schema.indexes index)) eqs)
    ≡ meant.loop_passes schema bound (loop_by item (IndexSeek index eqs low high)) keys
seek_is schema bound item index eqs low high alias keys is =
    ap
    (λ (a : Option ℕ). fold
    (pass_position item (ties_by item a (meant.columns_at (slice_get schema.indexes index)) eqs))
    (Leaves keys None)
    (index_positions a (meant.columns_at (slice_get schema.indexes index)) eqs)) is
