-- Which plans fit a schema: each loop has a path that its statement's terms offer.
use Rattle.std.specs.Prelude.{◌≡◌, ◌<◌, ℕ, false, List, [], ◌∷◌, ◌≢◌, true, not, length}
use Rattle.std.specs.List.{AllByRecursion}
use Rattle.std.specs.List.Sorted.{IsPermutation}
use Rattle.list_laws.specs.Nest.{Rearranges}
use Rattle.sql_meaning.specs.Schemas.{Schema}
use Rattle.sql_meaning.specs.Statements.{Bound, has_number, item_alias, FitsStatement, all_in}
use Rattle.sql_meaning.specs.Statements.{is_left, numbers_from, OwnersAreLeft}
use Rattle.sql_meaning.specs.Plans.{Loop, Plan}
use Rattle.sql_meaning.specs.Fitting.{PathFits, FitsTables, KeysArePlaced}
use Rattle.sql_meaning.specs.UsedTerms.{Used, PathCarries, UsedPlaced, UsedComes, Consumes}
use Rattle.sql_meaning.specs.Expressions.{names}

-- an offer for an item that isn't placed yet: its path fits the item's table, carries terms of the
-- item whose keys are known, and consumes conjuncts of direct ones alone
pub record IsOffer (schema : Schema) (bound : Bound) (placed : List ℕ) (loop : Loop)
    (used : Used) : Type 0
  where
    pub fits : FitsStatement schema bound
    pub unplaced : has_number loop.item placed ≡ false
    pub path : PathFits schema bound loop.item loop.path
    pub carries : PathCarries schema (item_alias schema bound loop.item) loop.path used
    pub keys : UsedPlaced placed used
    pub comes : UsedComes schema bound loop.item used
    pub consumes : AllByRecursion (Consumes used) loop.consumed

-- an offer for each loop, after the items placed before it; the list has the terms that each uses
abbrev pub AreOffers : Schema → Bound → List ℕ → List Loop → List Used → Type 0
AreOffers schema bound placed [] [] = Unit {0}
AreOffers schema bound placed [] (u ∷ us) = ⊥
AreOffers schema bound placed (l ∷ ls) [] = ⊥
AreOffers schema bound placed (l ∷ ls) (u ∷ us) =
    IsOffer schema bound placed l u × AreOffers schema bound (l.item ∷ placed) ls us

abbrev pub loop_items : List Loop → List ℕ
loop_items [] = []
loop_items (l ∷ ls) = l.item ∷ loop_items ls

-- the loops are offers: each item has one loop; items change places only with neighbours, and
-- neither is LEFT; and conjuncts name items of the statement alone
pub record FitsOffers (schema : Schema) (plan : Plan) : Type 0 where
  pub used : List Used
  pub once : Rearranges (λ i. not (is_left plan.bound i)) (loop_items plan.loops)
      (numbers_from 0 (length plan.bound.items))
  pub offered : AreOffers schema plan.bound [] plan.loops used
  pub some : plan.loops ≢ []
  pub named : AllByRecursion
      (λ c. all_in (names c.expr) (loop_items plan.loops) ≡ true) plan.bound.conjuncts
  pub owners : OwnersAreLeft plan.bound

-- a statement that the laws of plans speak of: its conversions are right, and each conjunct names
-- items that it has
pub record IsPlannable (schema : Schema) (bound : Bound) : Type 0 where
  pub fits : FitsStatement schema bound
  pub some : bound.items ≢ []
  pub named : AllByRecursion
      (λ c. all_in (names c.expr) (numbers_from 0 (length bound.items)) ≡ true) bound.conjuncts
  pub owners : OwnersAreLeft bound

-- a plan fits a schema where its statement does; each item has one loop; each path fits the table
-- of its item, by keys of earlier loops; and what is consumed are conjuncts
pub record PlanFits (schema : Schema) (plan : Plan) : Type 0 where
  pub statement : FitsStatement schema plan.bound
  pub once : IsPermutation (loop_items plan.loops) (numbers_from 0 (length plan.bound.items))
  pub paths : FitsTables schema plan
  pub keys : KeysArePlaced schema [] plan.loops
  pub consumed : AllByRecursion
      (λ l. AllByRecursion (λ n. n < length plan.bound.conjuncts) l.consumed) plan.loops
