-- The sizes of branches, one branch further.
use Rattle.std.proofs.Common.{◌≡◌, ◌≤◌, ◌<◌, ◌+◌, ◌-◌, ℕ, Bool, false, arith, refl, ap, sym, map}
use Rattle.std.proofs.Common.{List, [], ◌∷◌, length, drop, take, get_or}
use Rattle.std.proofs.lemmas.List.{drop_more, take_all}
use denote.Ref.{Bor}
use Rattle.sql_meaning.specs.Paths.{Path, Paths, Nowhere, Then, Union}
use Rattle.plan_form.specs.Paths.{path_of, paths}
use Rattle.plan_form.specs.declared.path.Path.{Path as BorrowedPath}
use Rattle.plan_choice.specs.Figures.{Figures}
use Rattle.plan_choice.specs.Costs as meant
use Rattle.plan_choice.specs.CostLaws.{SizeWithin}
use Rattle.plan_choice.proofs.CostBounds.{log_add_close}
use Rattle.path_costs.specs.Views.{told_size}
use Rattle.path_costs.specs.declared.cost.Size.{Size}

-- the size so far, and what it becomes with the paths that are left
pub record IsJoining (figures : Figures) (table : ℕ) (all : meant.Size) (size : Size)
    (left : Paths) : Type 0
  where
    pub so_far : meant.Size
    pub told : size ≡ told_size so_far
    pub run : so_far.run ≤ 100709
    pub entries : so_far.entries ≤ 1060
    pub becomes : meant.sizes_from figures table so_far left ≡ all

pub joining_more : (figures : Figures) (table : ℕ) (all : meant.Size) (size after : Size)
    (path : Path) (left : Paths) → (j : IsJoining figures table all size (Then path left))
    → SizeWithin 100649 (meant.size_of figures table false path)
    → after ≡ told_size (meant.join_sizes j.so_far (meant.size_of figures table false path))
    → IsJoining figures table all after left
joining_more figures table all size after path left j w e =
    let next = meant.size_of figures table false path in
    let run = j.run in
    let entries = j.entries in
    record {
      so_far = meant.join_sizes j.so_far next;
      told = e;
      run = log_add_close j.so_far.run next.run 100649 (omega (arith, run)) w.run;
      entries = log_add_close j.so_far.entries next.entries 1000 (omega (arith, entries)) w.entries;
      becomes = j.becomes;
    }

-- a union is never covering
pub union_covers_nothing : (figures : Figures) (table : ℕ) (covering : Bool) (paths : Paths)
    → meant.size_of figures table false (Union paths)
    ≡ meant.size_of figures table covering (Union paths)
union_covers_nothing figures table covering Nowhere = refl
union_covers_nothing figures table covering (Then path paths) = refl

pub left_more : (branches : List (Bor BorrowedPath)) (i : ℕ) (d : Bor BorrowedPath)
    → i < length branches
    → paths (map (λ branch. path_of branch.now) (drop i branches))
    ≡ Then (path_of (get_or branches i d).now)
    (paths (map (λ branch. path_of branch.now) (drop (i + 1) branches)))
left_more branches i d h =
    ap (λ list. paths (map (λ branch. path_of branch.now) list)) (drop_more branches i d h)

pub first_more : (branches : List (Bor BorrowedPath)) (d : Bor BorrowedPath)
    → 1 ≤ length branches
    → paths (map (λ branch. path_of branch.now) branches)
    ≡ Then (path_of (get_or branches 0 d).now)
    (paths (map (λ branch. path_of branch.now) (take (length branches - 1) (drop 1 branches))))
first_more [] d h = absurd (omega (arith, h))
first_more (branch ∷ branches) d h =
    ap (λ list. Then (path_of branch.now) (paths (map (λ branch. path_of branch.now) list)))
    (sym (take_all (length (branch ∷ branches) - 1) branches (omega arith)))
