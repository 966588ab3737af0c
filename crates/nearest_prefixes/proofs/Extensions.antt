-- What one loop more makes of what is known of the loops outside it.
use Rattle.std.specs.Borrow.{Bor}
use Rattle.std.proofs.Common.{◌≡◌, ◌≢◌, ◌≤◌, ◌+◌, ◌==◌, ℕ, suc, ℤ, pos, List, [], ◌∷◌, ◌++◌}
use Rattle.std.proofs.Common.{Option, Some, None, false, length, map, refl, sym, ap, ap₂, ◌∙◌, subst}
use Rattle.std.proofs.Common.{arith}
use Rattle.std.proofs.lemmas.List.{map-append}
use Rattle.sql_meaning.specs.Fitting.{PathFits}
use Rattle.sql_meaning.specs.OrderState.{State, pass_loop}
use Rattle.sql_bound.specs.Naming.{IsPlaced}
use Rattle.plan_choice.specs.Settings.{Setting}
use Rattle.plan_choice.specs.FigureLaws.{AreSmall}
use Rattle.plan_choice.specs.Prefixes as meant
use Rattle.plan_choice.proofs.OfferedLoops.{placed_more}
use Rattle.plan_choice.proofs.SoundPrefixes.{IsOwn}
use Rattle.access_paths.specs.declared.offer.Offer.{Offer}
use Rattle.loop_orders.specs.declared.state.OrderState.{OrderState}
use Rattle.loop_orders.specs.Walks.{state_of, loop_by}
use Rattle.nearest_prefixes.specs.Prefixes.{SeenLoop, SeenPrefix, told_loop, seen_loop, loops_of}
use Rattle.nearest_prefixes.specs.Prefixes.{loops_step}
use Rattle.nearest_prefixes.specs.Growing.{Follows, IsReached, Shows, Begins, Stands}
use Rattle.nearest_prefixes.specs.Outsides.{IsOutside, TellsOutside, IsLight}
use Rattle.nearest_prefixes.specs.declared.outside.Outside.{Outside}
use Rattle.nearest_prefixes.specs.declared.prefix.Prefix.TheFolds.{fold-roll-Prefix}
use Rattle.nearest_prefixes.specs.declared.prefix.Prefix.TheViews.{roll-Prefix, out-roll-Prefix}
use Rattle.nearest_prefixes.specs.declared.prefix.Prefix.TheOpen.{Prefix-F}
use Rattle.nearest_prefixes.specs.declared.prefix.Prefix.{Prefix}
use Rattle.nearest_prefixes.proofs.Reached.{follows_offered, follows_cheap, reached_cheap, room}
use Rattle.nearest_prefixes.proofs.Reached.{length_more, reached_is}
use Rattle.nearest_prefixes.proofs.Loops.{state_more}

pub begins_reached : (s : Setting) (p : meant.Prefix) (before : Option (Bor Prefix))
    → Begins s p before → IsReached s (length p.loops) p
begins_reached s p None e =
    subst (λ (q : meant.Prefix). IsReached s (length q.loops) q) (sym e) refl
begins_reached s p (Some x) h = h.reached

pub light : (s : Setting) (before : Option (Bor Prefix)) (l : SeenLoop) (o : Outside) → IsOwn s
    → AreSmall s.figures → length s.bound.items ≤ 64 → Stands s before l
    → TellsOutside s before o → IsLight o l
light s before l o own small few st out =
    let p = st.prefix in
    let t = st.next in
    let reached = begins_reached s p before st.begins in
    let cheap = reached_cheap s (length p.loops) p own small reached in
    let within = follows_cheap s p t own small st.follows in
    let below = room s (length p.loops) p t own reached st.follows in
    let is = out p st.begins in
    let cost = cheap.cost in
    let rows = cheap.rows in
    let long : o.length ≡ length p.loops = is.length in
    let there = st.follows.item in
    let item : t.item ≡ l.item = ap (λ (z : SeenLoop). z.item) st.told in
    record {
      cost =
          record { number = p.cost; is = is.cost; few = omega (arith, cost, below, few) };
      rows =
          record { number = p.rows; is = is.rows; few = omega (arith, rows, below, few) };
      run =
          record {
            number = t.offer.cost.run;
            is = sym (ap (λ (z : SeenLoop). z.offer.cost.run) st.told);
            few = within.run;
          };
      more =
          record {
            number = t.offer.cost.rows;
            is = sym (ap (λ (z : SeenLoop). z.offer.cost.rows) st.told);
            few = within.rows;
          };
      length = omega (arith, long, below, few);
      item = omega (arith, there, item, few);
    }

-- the path of a loop that may come next fits the table of its item
pub path_fits : (s : Setting) (before : Option (Bor Prefix)) (l : SeenLoop) → IsOwn s
    → Stands s before l → PathFits s.schema s.bound l.item l.offer.path
path_fits s before l own st =
    subst (λ (z : SeenLoop). PathFits s.schema s.bound z.item z.offer.path) st.told
    (follows_offered s st.prefix st.next own st.follows false).path

-- the loops of a prefix of the code, or none
abbrev pub loops_behind : Option (Bor Prefix) → List SeenLoop
loops_behind None = []
loops_behind (Some x) = loops_of x.now

pub rolled_loops : (before : Option (Bor Prefix)) (item number : ℕ) (offer : Bor Offer)
    (placed size : ℕ) (cost rows weight : ℤ) (order : OrderState)
    → loops_of
    (roll-Prefix
    (record {
      before = before;
      item = item;
      number = number;
      offer = offer;
      placed = placed;
      length = size;
      cost = cost;
      rows = rows;
      weight = weight;
      order = order;
    }))
    ≡ loops_behind before ++ seen_loop item number offer.now ∷ []
rolled_loops None item number offer placed size cost rows weight order =
    fold-roll-Prefix (List SeenLoop) loops_step _
rolled_loops (Some x) item number offer placed size cost rows weight order =
    fold-roll-Prefix (List SeenLoop) loops_step _

begins_loops : (s : Setting) (p : meant.Prefix) (before : Option (Bor Prefix)) → Begins s p before
    → loops_behind before ≡ map told_loop p.loops
begins_loops s p None e = sym (ap (λ (q : meant.Prefix). map told_loop q.loops) e)
begins_loops s p (Some x) h = ap (λ (z : SeenPrefix). z.loops) h.seen

abbrev made : List SeenLoop → ℕ → ℤ → ℤ → ℤ → State → SeenPrefix
made loops length cost rows weight state = record {
  loops = loops;
  length = length;
  cost = cost;
  rows = rows;
  weight = weight;
  state = state;
}

-- the parts of a prefix that has one loop more
pub record IsMore (s : Setting) (p : meant.Prefix) (t : meant.OfferedLoop) (x : Prefix-F Prefix)
    : Type 0
  where
    pub told : told_loop t ≡ seen_loop x.item x.number x.offer.now
    pub length : x.length ≡ length p.loops + 1
    pub cost : x.cost ≡ pos (meant.extended s p t).cost
    pub rows : x.rows ≡ pos (meant.extended s p t).rows
    pub weight : x.weight ≡ pos (meant.weight (meant.extended s p t))
    pub state : state_of x.order ≡ (meant.extended s p t).state
    pub placed : IsPlaced x.placed (x.item ∷ meant.placed_in p)

-- of its parts, without the chain
abbrev made_of : Prefix-F Prefix → List SeenLoop → SeenPrefix
made_of x loops = made loops x.length x.cost x.rows x.weight (state_of x.order)

pub shows_more : (s : Setting) (p : meant.Prefix) (t : meant.OfferedLoop) (x : Prefix-F Prefix)
    → Begins s p x.before → Follows s p t → IsMore s p t x
    → Shows s (meant.extended s p t) (roll-Prefix x)
shows_more s p t x begins follows m =
    let q = meant.extended s p t in
    let loops : loops_of (roll-Prefix x) ≡ map told_loop q.loops =
    rolled_loops x.before x.item x.number x.offer x.placed x.length x.cost x.rows x.weight x.order
    ∙ ap₂ (λ (ls : List SeenLoop) (l : SeenLoop). ls ++ l ∷ [])
    (begins_loops s p x.before begins) (sym m.told)
    ∙ sym (map-append told_loop p.loops (t ∷ [])) in
    let one : length p.loops + 1 ≡ suc (length p.loops) = omega arith in
    let long : x.length ≡ length q.loops = m.length ∙ one ∙ sym (length_more p.loops t) in
    let placed : IsPlaced x.placed (meant.placed_in q) =
    subst (IsPlaced x.placed) (sym (placed_more p.loops t []))
    (subst (λ (i : ℕ). IsPlaced x.placed (i ∷ meant.placed_in p))
    (sym (ap (λ (z : SeenLoop). z.item) m.told)) m.placed) in
    record {
      seen =
          ap (λ (y : Prefix-F Prefix). made_of y (loops_of (roll-Prefix x))) (out-roll-Prefix x)
          ∙ ap (made_of x) loops
          ∙ ap (λ n. made (map told_loop q.loops) n x.cost x.rows x.weight (state_of x.order)) long
          ∙ ap (λ n. made (map told_loop q.loops) (length q.loops) n x.rows x.weight
          (state_of x.order)) m.cost
          ∙ ap (λ n. made (map told_loop q.loops) (length q.loops) (pos q.cost) n x.weight
          (state_of x.order)) m.rows
          ∙ ap (λ n. made (map told_loop q.loops) (length q.loops) (pos q.cost) (pos q.rows) n
          (state_of x.order)) m.weight
          ∙ ap (λ st. made (map told_loop q.loops) (length q.loops) (pos q.cost) (pos q.rows)
          (pos (meant.weight q)) st) m.state;
      placed =
          subst (λ (y : Prefix-F Prefix). IsPlaced y.placed (meant.placed_in q))
          (sym (out-roll-Prefix x)) placed;
      reached =
          subst (λ (n : ℕ). IsReached s n q) (sym (length_more p.loops t))
          (p, t, begins_reached s p x.before begins, follows, refl);
    }

-- the order goes on
pub order_more : (s : Setting) (p : meant.Prefix) (t : meant.OfferedLoop)
    (before : Option (Bor Prefix)) (o : Outside) (z : SeenLoop) (st : State) → IsOwn s
    → Begins s p before → Follows s p t → IsOutside p o → told_loop t ≡ z
    → st ≡ meant.closed (o.length + 1 == length s.bound.items)
    (pass_loop s.schema s.bound (state_of o.order) (loop_by z.item z.offer.path))
    → st ≡ (meant.extended s p t).state
order_more s p t before o z st own begins follows out told e =
    let reached = begins_reached s p before begins in
    let below = room s (length p.loops) p t own reached follows in
    let apart : length p.loops ≢ length s.bound.items = λ f. omega (arith, below, f) in
    let long : o.length + 1 ≡ suc (length p.loops) =
    (let h : o.length ≡ length p.loops = out.length in omega (arith, h)) in
    e
    ∙ ap₂ (λ n st. meant.closed (n == length s.bound.items)
    (pass_loop s.schema s.bound st (loop_by z.item z.offer.path))) long out.state
    ∙ ap (λ (l : SeenLoop). meant.closed (suc (length p.loops) == length s.bound.items)
    (pass_loop s.schema s.bound p.state (loop_by l.item l.offer.path))) (sym told)
    ∙ sym (state_more s p t (reached_is s (length p.loops) p own reached).state apart)
