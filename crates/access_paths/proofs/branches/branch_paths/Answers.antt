use Rattle.std.proofs.Common.{◌≡◌, ◌++◌, ◌+◌, false, List, [], ◌∷◌, Some, Option, ap, sym, ◌∙◌}
use Rattle.std.proofs.Common.{subst, map, option_map, drop, append-nil}
use Rattle.std.specs.Borrow.{Bor}
use Rattle.std.specs.Prelude.{IfSome}
use Rattle.std.specs.List.{AllByRecursion}
use Rattle.list_laws.proofs.Lists.{all_append}
use Rattle.sql_meaning.specs.Paths.{Path, is_union}
use Rattle.plan_choice.specs.Offers.{union_seeks, branch_seek}
use Rattle.plan_form.specs.Paths.{path_of}
use Rattle.where_terms.specs.Views.{branches_of, column_terms_of}
use Rattle.where_terms.specs.declared.term.ColumnTerms.{ColumnTerms}
use Rattle.list_laws.proofs.Turns.{next_dropped, past_end}
use Rattle.access_paths.specs.declared.found.Found.{Found}
use Rattle.access_paths.specs.Placed.{items_in}
use Rattle.access_paths.specs.Seeks.{seen_seek, IsPlain}
use Rattle.access_paths.specs.Supplies.{AreReady}
use Rattle.access_paths.specs.NextItems.{setting_for}
use Rattle.access_paths.specs.Branches.{lent_paths, seek_paths}
use Rattle.access_paths.proofs.BranchSeeks.{union_more}
use Rattle.access_paths.proofs.branches.branch_paths.Goals as goal

pub loop-columns-preserved : goal.loop-columns-preserved
loop-columns-preserved c =
    let next = c.args.next.now in
    let s = setting_for next in
    let placed = items_in next.placed in
    let made = lent_paths c.loop-columns.paths.items in
    let more = lent_paths c.push_path.new.paths.items in
    let branches = c.args.branches.now in
    let i = c.loop-columns.columns-index in
    let here = c.columns-item.result in
    let cut : drop i branches ≡ here ∷ drop (i + 1) branches =
    next_dropped branches i here c.loop-columns-test.true c.columns-item.is in
    let plain : IsPlain false c.in-Some.seek =
    subst (λ (o : Option Found). IfSome o (IsPlain false)) c.in-Some.is
    c.in_ok-found.ensures.plain in
    record {
      told =
          union_more made more (seen_seek c.in-Some.seek)
          (branch_seek s placed next.item (map column_terms_of here.now))
          (union_seeks s placed next.item (branches_of (drop (i + 1) branches)))
          (option_map seek_paths (union_seeks s placed next.item (branches_of branches)))
          (sym (ap (option_map seen_seek) c.in-Some.is) ∙ c.in_ok-found.ensures.told)
          c.in_ok-push_path.ensures
          (sym
          (ap
          (λ (bs : List (Bor (List ColumnTerms))). option_map (λ ks. made ++ seek_paths ks)
          (union_seeks s placed next.item (branches_of bs))) cut)
          ∙ c.loop-columns.invariant.told);
      plain =
          subst (AllByRecursion (λ (path : Path). is_union path ≡ false))
          (sym c.in_ok-push_path.ensures)
          (all_append (λ path. is_union path ≡ false) made
          (path_of c.in-Some.seek.path.now ∷ []) c.loop-columns.invariant.plain
          (plain.plain, tt));
      ready =
          (subst (λ (bs : List (Bor (List ColumnTerms))).
          AllByRecursion (λ columns. AreReady columns.now) bs) cut
          c.loop-columns.invariant.ready).1;
    }

pub returns-clause-told : goal.returns-clause-told
returns-clause-told c =
    let next = c.args.next.now in
    let made = lent_paths c.loop-columns.paths.items in
    ap Some (c.listed.ensures ∙ sym (append-nil made))
    ∙ sym
    (ap
    (λ (bs : List (Bor (List ColumnTerms))). option_map (λ ks. made ++ seek_paths ks)
    (union_seeks (setting_for next) (items_in next.placed) next.item (branches_of bs)))
    (past_end c.args.branches.now c.loop-columns.columns-index c.loop-columns-test.false))
    ∙ c.loop-columns.invariant.told
