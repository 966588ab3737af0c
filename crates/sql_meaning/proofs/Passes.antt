-- What passing keys along the positions of a path says of two rows.
use Rattle.std.specs.List.{AllByRecursion}
use Rattle.std.specs.declared.cmp.Ordering.{Ordering}
use Rattle.std.specs.declared.cmp.Ordering.TheVariants.{Equal, Less, Greater}
use Rattle.std.specs.Ordering.{is_le, ordering_then}
use Rattle.std.proofs.Common.{◌≡◌, ℕ, Bool, true, List, ◌≢◌, [], ◌++◌, false, cond, ◌∷◌, refl, ap}
use Rattle.std.proofs.Common.{Option, Some, None, sym, ◌∙◌, append_assoc, subst, fold, ◌&&◌}
use Rattle.list_laws.proofs.Bools.{and_left, and_right}
use Rattle.sql_meaning.specs.Statements.{SortKey}
use Rattle.sql_meaning.specs.OrderState.{Position, key_matches, needs_backward, drop_held, Leaves}
use Rattle.sql_meaning.specs.OrderState.{Loses, agrees, pass_next, pass_position}
use Rattle.sql_meaning.specs.Orders.{lex_of, same_flag}

-- what is known of two rows of a walk: they tie by what is held, and a key that matches a position,
-- in the walk's direction, compares as it
pub record AreTied (item : ℕ) (held : SortKey → Bool) (d : Bool) (kc : SortKey → Ordering)
    (pc : Position → Ordering) (ps : List Position) : Type 0
  where
    pub keys : (k : SortKey) → held k ≡ true → kc k ≡ Equal
    pub positions : AllByRecursion (λ p. p.held ≡ true → pc p ≡ Equal) ps
    pub says : (p : Position) (k : SortKey) → key_matches item p k ≡ true → needs_backward p k ≡ d
        → kc k ≡ pc p

-- the passed keys are columns of the item, and go along with the positions
pub record IsPassed (item : ℕ) (held : SortKey → Bool) (Own : SortKey → Type 0) (d : Bool)
    (ps : List Position) (keys left : List SortKey) : Type 0
  where
    pub passed : List SortKey
    pub is : keys ≡ passed ++ left
    pub own : AllByRecursion Own passed
    pub rises : (kc : SortKey → Ordering) (pc : Position → Ordering) → AreTied item held d kc pc ps
        → is_le (lex_of pc ps) ≡ true → is_le (lex_of kc passed) ≡ true
    pub strictly : left ≢ [] → (kc : SortKey → Ordering) (pc : Position → Ordering)
        → AreTied item held d kc pc ps → lex_of pc ps ≡ Less → lex_of kc passed ≡ Less

pub record IsFront (held : SortKey → Bool) (keys : List SortKey) : Type 0 where
  pub front : List SortKey
  pub is : keys ≡ front ++ drop_held held keys
  pub all : AllByRecursion (λ k. held k ≡ true) front

front_case : (held : SortKey → Bool) (k : SortKey) (ks : List SortKey) → IsFront held ks
    → (b : Bool) → held k ≡ b → (front : List SortKey)
    × (k ∷ ks ≡ front ++ cond b (drop_held held ks) (k ∷ ks))
    × AllByRecursion (λ k. held k ≡ true) front
front_case held k ks f true e = (k ∷ f.front, ap (λ zs. k ∷ zs) f.is, (e, f.all))
front_case held k ks f false e = ([], refl, tt)

pub held_front : (held : SortKey → Bool) (keys : List SortKey) → IsFront held keys
held_front held [] = record { front = []; is = refl; all = tt }
held_front held (k ∷ ks) =
    let c = front_case held k ks (held_front held ks) (held k) refl in
    record { front = c.0; is = c.1; all = c.2 }

front_ties : (held : SortKey → Bool) (kc : SortKey → Ordering)
    → ((k : SortKey) → held k ≡ true → kc k ≡ Equal) → (front : List SortKey)
    → AllByRecursion (λ k. held k ≡ true) front → (ks : List SortKey)
    → lex_of kc (front ++ ks) ≡ lex_of kc ks
front_ties held kc t [] h ks = refl
front_ties held kc t (k ∷ front) h ks = rw (t k h.0) (front_ties held kc t front h.1 ks)

all_held_own : (held : SortKey → Bool) (Own : SortKey → Type 0)
    → ((k : SortKey) → held k ≡ true → Own k) → (front passed : List SortKey)
    → AllByRecursion (λ k. held k ≡ true) front → AllByRecursion Own passed
    → AllByRecursion Own (front ++ passed)
all_held_own held Own f [] passed h p = p
all_held_own held Own f (k ∷ front) passed h p =
    (f k h.0, all_held_own held Own f front passed h.1 p)

le_same : (o a b : Ordering) → (is_le a ≡ true → is_le b ≡ true) → is_le (ordering_then o a) ≡ true
    → is_le (ordering_then o b) ≡ true
le_same Less a b f h = refl
le_same Equal a b f h = f h
le_same Greater a b f h = h

less_same : (o a b : Ordering) → (a ≡ Less → b ≡ Less) → ordering_then o a ≡ Less
    → ordering_then o b ≡ Less
less_same Less a b f h = refl
less_same Equal a b f h = f h
less_same Greater a b f h = h

tied_rest : (item : ℕ) (held : SortKey → Bool) (d : Bool) (kc : SortKey → Ordering)
    (pc : Position → Ordering) (p : Position) (ps : List Position)
    → AreTied item held d kc pc (p ∷ ps) → AreTied item held d kc pc ps
tied_rest item held d kc pc p ps t =
    record { keys = t.keys; positions = t.positions.1; says = t.says }

-- the direction that was fixed agrees
abbrev pub IsDirection : Option Bool → Bool → Type 0
IsDirection None d = Unit {0}
IsDirection (Some e) d = e ≡ d

pub leaves_keys : (ks ls : List SortKey) (a b : Option Bool) → Leaves ks a ≡ Leaves ls b → (ks ≡ ls)
    × (a ≡ b)
leaves_keys ks ls a b e = (cc, cc)

same_is : (a b : Bool) → same_flag a b ≡ true → a ≡ b
same_is true true h = refl
same_is true false h = absurd (cc)
same_is false true h = absurd (cc)
same_is false false h = refl

-- an order that is lost stays lost
lost_stays : (item : ℕ) (held : SortKey → Bool) (ps : List Position) (left : List SortKey)
    (out : Option Bool)
    → fold (pass_position item held) Loses ps ≡ Leaves left out → ⊥
lost_stays item held [] left out h = cc
lost_stays item held (p ∷ ps) left out h = lost_stays item held ps left out h

-- where no key is left, none comes back
none_left : (item : ℕ) (held : SortKey → Bool) (ps : List Position) (direction : Option Bool)
    (left : List SortKey) (out : Option Bool)
    → fold (pass_position item held) (Leaves [] direction) ps ≡ Leaves left out → left ≡ []
none_left item held [] direction left out h = sym (leaves_keys [] left direction out h).0
none_left item held (p ∷ ps) direction left out h = none_left item held ps direction left out h

-- once fixed, a direction stays
fixed_stays : (item : ℕ) (held : SortKey → Bool) (ps : List Position) (e : Bool)
    (keys left : List SortKey) (out : Option Bool)
    → fold (pass_position item held) (Leaves keys (Some e)) ps ≡ Leaves left out → out ≡ Some e
fixed_stays item held [] e keys left out h = sym (leaves_keys keys left (Some e) out h).1
fixed_stays item held (p ∷ ps) e keys left out h =
    next_case (λ ks g. fixed_stays item held ps e ks left out g) (drop_held held keys) h
  where
    match_case : ((ks : List SortKey)
        → fold (pass_position item held) (Leaves ks (Some e)) ps ≡ Leaves left out → out ≡ Some e)
        → (k : SortKey) (ks : List SortKey) (b m : Bool) → p.held ≡ b
        → (key_matches item p k && same_flag e (needs_backward p k)) ≡ m
        → fold (pass_position item held)
        (cond b (Leaves (k ∷ ks) (Some e)) (cond m (Leaves ks (Some (needs_backward p k))) Loses))
        ps ≡ Leaves left out
        → out ≡ Some e
    match_case ih k ks true m hb hm h = ih (k ∷ ks) h
    match_case ih k ks false true hb hm h =
        ih ks
        (subst
        (λ (d : Bool). fold (pass_position item held) (Leaves ks (Some d)) ps ≡ Leaves left out)
        (sym (same_is e (needs_backward p k) (and_right (key_matches item p k) _ hm))) h)
    match_case ih k ks false false hb hm h = absurd (lost_stays item held ps left out h)

    next_case : ((ks : List SortKey)
        → fold (pass_position item held) (Leaves ks (Some e)) ps ≡ Leaves left out → out ≡ Some e)
        → (ks : List SortKey)
        → fold (pass_position item held) (pass_next item p (Some e) ks) ps ≡ Leaves left out
        → out ≡ Some e
    next_case ih [] h = ih [] h
    next_case ih (k ∷ ks) h = match_case ih k ks p.held _ refl refl h

held_step : (item : ℕ) (held : SortKey → Bool) (Own : SortKey → Type 0)
    → ((k : SortKey) → held k ≡ true → Own k)
    → (d : Bool) (p : Position) (ps : List Position) (keys left : List SortKey)
    (f : IsFront held keys)
    → p.held ≡ true → IsPassed item held Own d ps (drop_held held keys) left
    → IsPassed item held Own d (p ∷ ps) keys left
held_step item held Own owns d p ps keys left f h i = record {
  passed = f.front ++ i.passed;
  is = f.is ∙ ap (λ zs. f.front ++ zs) i.is ∙ sym (append_assoc f.front i.passed left);
  own = all_held_own held Own owns f.front i.passed f.all i.own;
  rises =
      λ kc pc t le. rw (front_ties held kc t.keys f.front f.all i.passed)
      (i.rises kc pc (tied_rest item held d kc pc p ps t) (rw (t.positions.0 h) at le));
  strictly =
      λ n kc pc t less. rw (front_ties held kc t.keys f.front f.all i.passed)
      (i.strictly n kc pc (tied_rest item held d kc pc p ps t) (rw (t.positions.0 h) at less));
}

match_step : (item : ℕ) (held : SortKey → Bool) (Own : SortKey → Type 0)
    → ((k : SortKey) → held k ≡ true → Own k)
    → (d : Bool) (p : Position) (ps : List Position) (keys left : List SortKey)
    (f : IsFront held keys) (k : SortKey) (ks : List SortKey)
    → drop_held held keys ≡ k ∷ ks → Own k → key_matches item p k ≡ true → needs_backward p k ≡ d
    → IsPassed item held Own d ps ks left → IsPassed item held Own d (p ∷ ps) keys left
match_step item held Own owns d p ps keys left f k ks e own m n i = record {
  passed = f.front ++ (k ∷ i.passed);
  is =
      f.is ∙ ap (λ zs. f.front ++ zs) (e ∙ ap (λ zs. k ∷ zs) i.is)
      ∙ sym (append_assoc f.front (k ∷ i.passed) left);
  own = all_held_own held Own owns f.front (k ∷ i.passed) f.all (own, i.own);
  rises =
      λ kc pc t le. rw (front_ties held kc t.keys f.front f.all (k ∷ i.passed), t.says p k m n)
      (le_same (pc p) _ _ (i.rises kc pc (tied_rest item held d kc pc p ps t)) le);
  strictly =
      λ s kc pc t less. rw (front_ties held kc t.keys f.front f.all (k ∷ i.passed), t.says p k m n)
      (less_same (pc p) _ _ (i.strictly s kc pc (tied_rest item held d kc pc p ps t)) less);
}

append_none : (xs : List SortKey) → xs ++ [] ≡ xs
append_none [] = refl
append_none (x ∷ xs) = ap (λ zs. x ∷ zs) (append_none xs)

done_step : (item : ℕ) (held : SortKey → Bool) (Own : SortKey → Type 0)
    → ((k : SortKey) → held k ≡ true → Own k)
    → (d : Bool) (ps : List Position) (keys left : List SortKey) (f : IsFront held keys)
    → drop_held held keys ≡ [] → left ≡ [] → IsPassed item held Own d ps keys left
done_step item held Own owns d ps keys left f e l = record {
  passed = f.front ++ [];
  is = f.is ∙ ap (λ zs. f.front ++ zs) (e ∙ sym l) ∙ sym (append_assoc f.front [] left);
  own = all_held_own held Own owns f.front [] f.all tt;
  rises = λ kc pc t le. rw (front_ties held kc t.keys f.front f.all []) refl;
  strictly = λ n. absurd (n l);
}

-- passing the positions of a walk says that the passed keys rise with them, and strictly where keys
-- are left
pub pass_is : (item : ℕ) (held : SortKey → Bool) (Own : SortKey → Type 0)
    → ((k : SortKey) → held k ≡ true → Own k)
    → ((p : Position) (k : SortKey) → key_matches item p k ≡ true → Own k)
    → (d : Bool) (ps : List Position) (direction : Option Bool) (keys left : List SortKey)
    (out : Option Bool)
    → fold (pass_position item held) (Leaves keys direction) ps ≡ Leaves left out
    → IsDirection out d → IsPassed item held Own d ps keys left
pass_is item held Own owns matches d [] direction keys left out h fixed = record {
  passed = [];
  is = (leaves_keys keys left direction out h).0;
  own = tt;
  rises = λ kc pc t le. refl;
  strictly = λ n kc pc t less. absurd (cc);
}
pass_is item held Own owns matches d (p ∷ ps) direction keys left out h fixed =
    next_case (λ dir ks g. pass_is item held Own owns matches d ps dir ks left out g fixed)
    (drop_held held keys) refl h
  where
    match_case : ((direction : Option Bool) (ks : List SortKey)
        → fold (pass_position item held) (Leaves ks direction) ps ≡ Leaves left out
        → IsPassed item held Own d ps ks left)
        → (k : SortKey) (ks : List SortKey) → drop_held held keys ≡ k ∷ ks → (b m : Bool)
        → p.held ≡ b → (key_matches item p k && agrees direction (needs_backward p k)) ≡ m
        → fold (pass_position item held)
        (cond b (Leaves (k ∷ ks) direction) (cond m (Leaves ks (Some (needs_backward p k))) Loses))
        ps ≡ Leaves left out
        → IsPassed item held Own d (p ∷ ps) keys left
    match_case ih k ks g true m hb hm h =
        held_step item held Own owns d p ps keys left (held_front held keys) hb
        (subst (λ (zs : List SortKey). IsPassed item held Own d ps zs left) (sym g)
        (ih direction (k ∷ ks) h))
    match_case ih k ks g false true hb hm h =
        let is = and_left (key_matches item p k) _ hm in
        let final : out ≡ Some (needs_backward p k) =
        fixed_stays item held ps (needs_backward p k) ks left out h in
        match_step item held Own owns d p ps keys left (held_front held keys) k ks g
        (matches p k is) is (subst (λ (o : Option Bool). IsDirection o d) final fixed)
        (ih (Some (needs_backward p k)) ks h)
    match_case ih k ks g false false hb hm h = absurd (lost_stays item held ps left out h)

    next_case : ((direction : Option Bool) (ks : List SortKey)
        → fold (pass_position item held) (Leaves ks direction) ps ≡ Leaves left out
        → IsPassed item held Own d ps ks left)
        → (rest : List SortKey) → drop_held held keys ≡ rest
        → fold (pass_position item held) (pass_next item p direction rest) ps ≡ Leaves left out
        → IsPassed item held Own d (p ∷ ps) keys left
    next_case ih [] g h =
        done_step item held Own owns d (p ∷ ps) keys left (held_front held keys) g
        (none_left item held ps direction left out h)
    next_case ih (k ∷ ks) g h = match_case ih k ks g p.held _ refl refl h
