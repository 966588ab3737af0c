-- The seeks of the branches of an OR, as the code chooses and lists them.
use Rattle.std.specs.Prelude.{◌≡◌, ℕ, false, List, map, Option, Some, None}
use Rattle.std.specs.Prelude.{option_map}
use Rattle.std.specs.Borrow.{Bor}
use Rattle.std.specs.List.{AllByRecursion}
use Rattle.sql_meaning.specs.Paths.{Path, is_union}
use Rattle.sql_meaning.specs.Choices as meant_choices
use Rattle.plan_choice.specs.Costs.{size_of}
use Rattle.plan_choice.specs.Settings as meant
use Rattle.plan_choice.specs.Offers.{lighter, option_list, seek_by}
use Rattle.plan_form.specs.Paths.{path_of}
use Rattle.plan_form.specs.declared.path.Path.{Path as OwnPath}
use Rattle.plan_form.specs.declared.path.Paths.{Paths}
use Rattle.access_paths.specs.Seeks.{SeenSeek, told_seek}

-- of what was found before and what is found next, the first of those that weigh least
abbrev pub lighter_of : {X : Type 0} → (X → ℕ) → Option X → Option X → Option X
lighter_of weight None next = next
lighter_of weight (Some x) next = lighter weight x next

-- what a seek of the item costs to run
abbrev pub seen_run : meant.Setting → ℕ → SeenSeek → ℕ
seen_run s item z = (size_of s.figures (meant.table_for s item) false z.path).run

-- the seek in an index by these terms, if there is one
abbrev pub told_in : meant.Setting → List ℕ → ℕ → List meant_choices.ColumnTerms → ℕ
    → List SeenSeek
told_in s placed item columns index =
    option_list (option_map (told_seek false) (seek_by s placed item columns index))

-- paths that are lent, and those of a union
abbrev pub lent_paths : List (Bor OwnPath) → List Path
lent_paths ps = map (λ lent. path_of lent.now) ps

abbrev pub seen_paths : Paths → List Path
seen_paths ps = lent_paths ps.branches.now

abbrev pub seek_paths : List meant_choices.Seek → List Path
seek_paths ks = map (λ k. k.path) ks

-- no branch is a union
abbrev pub AllArePlain : Paths → Type 0
AllArePlain ps = AllByRecursion (λ path. is_union path ≡ false) (seen_paths ps)
