-- What prefixes are seen as.
use Rattle.std.specs.Prelude.{ℕ, ◌+◌, ℤ, pos, List, [], ◌∷◌, ◌++◌, map, length, Option, Some, None}
use Rattle.std.specs.Borrow.{Bor}
use Rattle.sql_meaning.specs.OrderState.{State}
use Rattle.plan_choice.specs.Prefixes as meant
use Rattle.access_paths.specs.Offers.{SeenOffer, seen_offer, told_offer}
use Rattle.access_paths.specs.declared.offer.Offer.{Offer}
use Rattle.loop_orders.specs.Walks.{state_of}
use Rattle.nearest_prefixes.specs.declared.prefix.Prefix.{Prefix, out-Prefix}
use Rattle.nearest_prefixes.specs.declared.prefix.Prefix.TheOpen.{Prefix-F}
use Rattle.nearest_prefixes.specs.declared.prefix.Prefix.TheFolds.{fold-Prefix}

-- the loop of an item by the offer of this number
pub record SeenLoop : Type 0 where
  pub item : ℕ
  pub number : ℕ
  pub offer : SeenOffer

abbrev pub seen_loop : ℕ → ℕ → Offer → SeenLoop
seen_loop item number o = record { item = item; number = number; offer = seen_offer o }

-- what is to be seen of a loop that is defined
abbrev pub told_loop : meant.OfferedLoop → SeenLoop
told_loop t = record { item = t.item; number = t.number; offer = told_offer t.offer }

-- the loops of an item by these offers, numbered from here on
abbrev pub seen_from : ℕ → ℕ → List Offer → List SeenLoop
seen_from item number [] = []
seen_from item number (o ∷ os) = seen_loop item number o ∷ seen_from item (number + 1) os

abbrev pub seen_loops : ℕ → List Offer → List SeenLoop
seen_loops item os = seen_from item 0 os

abbrev pub loops_before : Option (Bor (List SeenLoop)) → List SeenLoop
loops_before None = []
loops_before (Some before) = before.now

-- those before, and then the last one
abbrev pub loops_step : Prefix-F (List SeenLoop) → List SeenLoop
loops_step p = loops_before p.before ++ seen_loop p.item p.number p.offer.now ∷ []

-- the loops of a chain, from outside in
abbrev pub loops_of : Prefix → List SeenLoop
loops_of = fold-Prefix (List SeenLoop) loops_step

pub record SeenPrefix : Type 0 where
  pub loops : List SeenLoop
  pub length : ℕ
  pub cost : ℤ
  pub rows : ℤ
  pub weight : ℤ
  pub state : State

-- contracts speak of a prefix through this view alone
abbrev pub seen_prefix : Prefix → SeenPrefix
seen_prefix p = record {
  loops = loops_of p;
  length = (out-Prefix p).length;
  cost = (out-Prefix p).cost;
  rows = (out-Prefix p).rows;
  weight = (out-Prefix p).weight;
  state = state_of (out-Prefix p).order;
}

-- what is to be seen of a prefix that is defined
abbrev pub told_prefix : meant.Prefix → SeenPrefix
told_prefix p = record {
  loops = map told_loop p.loops;
  length = length p.loops;
  cost = pos p.cost;
  rows = pos p.rows;
  weight = pos (meant.weight p);
  state = p.state;
}
