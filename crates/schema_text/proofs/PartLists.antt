-- The parts of a list, one by one.
use Rattle.std.proofs.Common.{◌≡◌, ℕ, zero, suc, ◌+◌, ◌-◌, ◌<◌, ◌≤◌, ◌==◌, ◌&&◌, cond, Bool, true}
use Rattle.std.proofs.Common.{false, List, [], ◌∷◌, ◌++◌, length, take, drop, get_or, refl, ap, sym}
use Rattle.std.proofs.Common.{◌∙◌, arith, append_assoc}
use Rattle.std.proofs.lemmas.List.{append-nil}
use Rattle.sql_tokens.specs.declared.token.Token.{Token}
use Rattle.schema_text.specs.Words.{is_mark}
use Rattle.schema_text.specs.Groups.{next_level, before_first, parts_from}

-- the tokens come before those of the first part
abbrev pub joined : List Token → List (List Token) → List (List Token)
joined front [] = front ∷ []
joined front (part ∷ parts) = (front ++ part) ∷ parts

abbrev pub between : ℕ → ℕ → List Token → List Token
between start end ts = take (end - start) (drop start ts)

drop_next : (ts : List Token) (i : ℕ) (d : Token) → i < length ts
    → drop i ts ≡ get_or ts i d ∷ drop (i + 1) ts
drop_next [] i d h = absurd (omega (arith, h))
drop_next (t ∷ ts) zero d h = refl
drop_next (t ∷ ts) (suc i) d h = let n : suc i + 1 ≡ suc (i + 1) = omega arith in
    rw n (drop_next ts i d (omega (arith, h)))

take_next : (ts : List Token) (k : ℕ) (d : Token) → k < length ts
    → take (k + 1) ts ≡ take k ts ++ get_or ts k d ∷ []
take_next [] k d h = absurd (omega (arith, h))
take_next (t ∷ ts) zero d h = refl
take_next (t ∷ ts) (suc k) d h = let n : suc k + 1 ≡ suc (k + 1) = omega arith in
    rw n (ap (λ l. t ∷ l) (take_next ts k d (omega (arith, h))))

get_dropped : (ts : List Token) (start k : ℕ) (d : Token)
    → get_or (drop start ts) k d ≡ get_or ts (start + k) d
get_dropped [] zero k d = refl
get_dropped [] (suc start) k d = refl
get_dropped (t ∷ ts) zero k d = let n : 0 + k ≡ k = omega arith in rw n refl
get_dropped (t ∷ ts) (suc start) k d = let n : suc start + k ≡ suc (start + k) = omega arith in
    rw n (get_dropped ts start k d)

length_dropped : (ts : List Token) (start : ℕ) → length (drop start ts) ≡ length ts - start
length_dropped [] zero = omega arith
length_dropped [] (suc start) = omega arith
length_dropped (t ∷ ts) zero = omega arith
length_dropped (t ∷ ts) (suc start) = let h = length_dropped ts start in omega (arith, h)

grows : (ts : List Token) (start place : ℕ) (d : Token) → start ≤ place → place < length ts
    → between start (place + 1) ts ≡ between start place ts ++ get_or ts place d ∷ []
grows ts start place d h k =
    let n : place + 1 - start ≡ (place - start) + 1 = omega (arith, h) in
    let at : start + (place - start) ≡ place = omega (arith, h) in
    let inside : place - start < length (drop start ts) =
    rw (length_dropped ts start) (omega (arith, h, k)) in
    rw n (take_next (drop start ts) (place - start) d inside
    ∙ ap (λ t. take (place - start) (drop start ts) ++ t ∷ [])
    (get_dropped ts start (place - start) d ∙ ap (λ i. get_or ts i d) at))

joined_next : (front : List Token) (t : Token) (parts : List (List Token))
    → joined (front ++ t ∷ []) parts ≡ joined front (before_first t parts)
joined_next front t [] = refl
joined_next front t (part ∷ parts) = ap (λ l. l ∷ parts) (append_assoc front (t ∷ []) part)

pub joined_none : (text : List ℕ) (level : ℕ) (ts : List Token)
    → joined [] (parts_from text level ts) ≡ parts_from text level ts
joined_none text level [] = refl
joined_none text level (t ∷ ts) =
    by (level == 0 && is_mark text 44 t) (parts_from text level ts)
    (parts_from text (next_level text level t) ts)
  where
    kept : (parts : List (List Token)) → joined [] (before_first t parts) ≡ before_first t parts
    kept [] = refl
    kept (part ∷ parts) = refl

    by : (b : Bool) (at behind : List (List Token))
        → joined [] (cond b ([] ∷ at) (before_first t behind))
        ≡ cond b ([] ∷ at) (before_first t behind)
    by true at behind = refl
    by false at behind = kept behind

module _ (text : List ℕ) (ts : List Token) (done all : List (List Token)) (start place level : ℕ)
    (d : Token)
    (so_far : done ++ joined (between start place ts) (parts_from text level (drop place ts)) ≡ all)
    (order : start ≤ place) (inside : place < length ts) where
  here : parts_from text level (drop place ts)
      ≡ cond (level == 0 && is_mark text 44 (get_or ts place d))
      ([] ∷ parts_from text level (drop (place + 1) ts))
      (before_first (get_or ts place d)
      (parts_from text (next_level text level (get_or ts place d)) (drop (place + 1) ts)))
  here = ap (parts_from text level) (drop_next ts place d inside)

  pub cuts : (level == 0 && is_mark text 44 (get_or ts place d)) ≡ true
      → (done ++ between start place ts ∷ [])
      ++ joined (between (place + 1) (place + 1) ts)
      (parts_from text level (drop (place + 1) ts)) ≡ all
  cuts e =
      let rest = parts_from text level (drop (place + 1) ts) in
      let zero_left : place + 1 - (place + 1) ≡ 0 = omega arith in
      let none : between (place + 1) (place + 1) ts ≡ [] =
      ap (λ n. take n (drop (place + 1) ts)) zero_left in
      ap (λ (front : List Token). (done ++ between start place ts ∷ []) ++ joined front rest) none
      ∙ ap (λ (parts : List (List Token)). (done ++ between start place ts ∷ []) ++ parts)
      (joined_none text level (drop (place + 1) ts))
      ∙ append_assoc done (between start place ts ∷ []) rest
      ∙ ap (λ (front : List Token). done ++ front ∷ rest)
      (sym (append-nil (between start place ts)))
      ∙ ap (λ (parts : List (List Token)). done ++ joined (between start place ts) parts)
      (sym (here ∙ ap (λ b. cond b ([] ∷ rest)
      (before_first (get_or ts place d)
      (parts_from text (next_level text level (get_or ts place d)) (drop (place + 1) ts)))) e))
      ∙ so_far

  pub joins : (level == 0 && is_mark text 44 (get_or ts place d)) ≡ false
      → done ++ joined (between start (place + 1) ts)
      (parts_from text (next_level text level (get_or ts place d)) (drop (place + 1) ts)) ≡ all
  joins e =
      let t = get_or ts place d in
      let rest = parts_from text (next_level text level t) (drop (place + 1) ts) in
      ap (λ (front : List Token). done ++ joined front rest) (grows ts start place d order inside)
      ∙ ap (λ (parts : List (List Token)). done ++ parts)
      (joined_next (between start place ts) t rest)
      ∙ ap (λ (parts : List (List Token)). done ++ joined (between start place ts) parts)
      (sym (here ∙ ap (λ b. cond b ([] ∷ parts_from text level (drop (place + 1) ts))
      (before_first t rest)) e))
      ∙ so_far
