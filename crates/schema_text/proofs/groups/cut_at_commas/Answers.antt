use Rattle.std.proofs.Common.{◌+◌, ◌++◌, ◌∷◌, [], ap, sym, ◌∙◌, arith, List, map, drop, ℕ, Bor}
use Rattle.std.proofs.lemmas.List.{map-append}
use Rattle.sql_tokens.specs.declared.token.Token.{Token}
use Rattle.schema_text.specs.Groups.{parts_from}
use Rattle.schema_text.proofs.PartLists.{joined, between, joined_none, cuts, joins}
use Rattle.schema_text.proofs.groups.cut_at_commas.Goals as goal

pub loop-place-init : goal.loop-place-init
loop-place-init c = record {
  same = rw c.new-parts.ensures.items (joined_none c.args.text.now 0 c.args.tokens.now);
  order = omega arith;
  small = omega arith;
}

pub loop-place-preserved-then-cuts_here : goal.loop-place-preserved-then-cuts_here
loop-place-preserved-then-cuts_here c =
    let l = c.loop-place in
    let ts = c.args.tokens.now in
    let rest = joined (between (l.place + 1) (l.place + 1) ts)
    (parts_from c.args.text.now l.level (drop (l.place + 1) ts)) in
    let now : Bor (List Token) → List Token = λ part. part.now in
    record {
      same =
          ap (λ (parts : List (Bor (List Token))). map now parts ++ rest) c.in_ok-push.ensures.items
          ∙ ap (λ (parts : List (List Token)). parts ++ rest)
          (map-append now l.parts.items (c.tokens_between.result ∷ []))
          ∙ ap (λ (front : List Token). (map now l.parts.items ++ front ∷ []) ++ rest)
          c.tokens_between.ensures
          ∙ cuts c.args.text.now ts (map now l.parts.items) _ l.start l.place l.level _
          l.invariant.same l.invariant.order c.loop-place-test.true
          (sym c.cuts_here.ensures ∙ c.if-cuts_here.true);
      order = omega arith;
      small = omega (arith, l.invariant.small);
    }

pub loop-place-preserved : goal.loop-place-preserved
loop-place-preserved c =
    let l = c.loop-place in
    let ts = c.args.tokens.now in
    let h = joins c.args.text.now ts (map (λ part. part.now) l.parts.items) _ l.start l.place
    l.level _ l.invariant.same l.invariant.order c.loop-place-test.true
    (sym c.cuts_here.ensures ∙ c.if-cuts_here.false) in
    record {
      same = ap (λ (n : ℕ). map (λ part. part.now) l.parts.items
          ++ joined (between l.start (l.place + 1) ts)
          (parts_from c.args.text.now n (drop (l.place + 1) ts))) c.next_level-level.ensures.same
          ∙ h;
      order = omega (arith, l.invariant.order);
      small = omega (arith, c.next_level-level.ensures.small, l.invariant.small);
    }
