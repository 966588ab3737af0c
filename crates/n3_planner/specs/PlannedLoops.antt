-- The loops of a prefix, as those of a plan.
use Rattle.std.specs.Prelude.{Bool, false, ◌&&◌, ◌<◌, List, length, map}
use Rattle.sql_meaning.specs.Fitting.{FitsTable}
use Rattle.sql_meaning.specs.OrderState.{State, direction}
use Rattle.sql_meaning.specs.Plans.{Loop}
use Rattle.plan_choice.specs.Settings.{Setting, table_for}
use Rattle.nearest_prefixes.specs.Prefixes.{SeenLoop, seen_loop}
use Rattle.nearest_prefixes.specs.declared.prefix.Prefix.{Prefix, out-Prefix}

-- the loop walks forward so far
abbrev pub plain_loop : SeenLoop → Loop
plain_loop t = record {
  item = t.item;
  path = t.offer.path;
  reverse = false;
  consumed = t.offer.consumed;
}

abbrev pub plain_loops : List SeenLoop → List Loop
plain_loops ts = map plain_loop ts

abbrev pub covering_loops : List SeenLoop → List Bool
covering_loops ts = map (λ t. t.offer.covering) ts

-- the loop in its direction, where the order is given by the loops
abbrev pub with_direction : Setting → Bool → State → Loop → Loop
with_direction s given state l = record {
  item = l.item;
  path = l.path;
  reverse = given && direction s.schema s.bound state l;
  consumed = l.consumed;
}

-- the innermost loop of a chain
abbrev pub last_loop : Prefix → SeenLoop
last_loop p =
    let last = out-Prefix p in seen_loop last.item last.number last.offer.now

-- the item is one of the statement, and the path fits its table
pub record LoopFits (s : Setting) (t : SeenLoop) : Type 0 where
  pub item : t.item < length s.bound.items
  pub path : FitsTable s.schema (table_for s t.item) t.offer.path
