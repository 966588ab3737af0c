use Rattle.std.proofs.Common.{[], Bool, OnOk, Result, cond, sym, ◌∙◌, subst}
use Rattle.std.proofs.lemmas.Result.{on_ok_weaker}
use Rattle.plan_choice.specs.Prefixes as meant
use Rattle.access_paths.specs.Settings.{setting_of}
use Rattle.nearest_prefixes.specs.Searching.{AreShown, by_offers, kept_with}
use Rattle.nearest_prefixes.proofs.growing.enter_item.Goals as goal

from_ok : {T E P Q : Type 0} (r : Result T E) → OnOk r P → (P → Q) → OnOk r Q
from_ok r h f = on_ok_weaker r f h

pub returns-then-not-may_come-clause-told : goal.returns-then-not-may_come-clause-told
returns-then-not-may_come-clause-told c = λ count ps p shown begins size.
    let s = setting_of c.args.setting.now in
    let outer = c.outer_loops-placed.ensures p begins in
    subst
    (λ (b : Bool). AreShown s count
    (kept_with s c.args.most ps (cond b (by_offers s p c.args.item) [])) c.args.kept.now.items)
    (sym c.if-not-may_come.true ∙ c.may_come.ensures (meant.placed_in p) outer.placed)
    shown

pub returns-clause-told : goal.returns-clause-told
returns-clause-told c = from_ok c.enter_offers.result c.enter_offers.ensures.told
    (λ told count ps p shown begins size.
    let s = setting_of c.args.setting.now in
    let outer = c.outer_loops-placed.ensures p begins in
    let come = sym (c.may_come.ensures (meant.placed_in p) outer.placed)
    ∙ c.if-not-may_come.false in
    subst
    (λ (b : Bool). AreShown s count
    (kept_with s c.args.most ps (cond b (by_offers s p c.args.item) []))
    c.enter_offers.new.kept.items)
    (sym come)
    (told count ps p shown
    (record {
      begins = begins;
      comes = come;
      below = c.requires.item;
      told = c.in_ok-offers.ensures.told p begins;
    }) size))
