-- A seek is no union.
use Rattle.std.proofs.Common.{◌≡◌, ℕ, Bool, false, List, [], ◌∷◌, Option, Some, None, ap, sym, ◌∙◌}
use Rattle.std.proofs.Common.{refl, option_map}
use Rattle.std.specs.Prelude.{IfSome}
use Rattle.std.proofs.lemmas.Option.{same_Some}
use Rattle.sql_meaning.specs.Paths.{Path, Union, TableScan, RowidEq, RowidRange, IndexScan}
use Rattle.sql_meaning.specs.Paths.{IndexSeek, is_union}
use Rattle.sql_meaning.specs.Terms.{Term}
use Rattle.sql_meaning.specs.Choices.{Seek, Taken, seek_of, rowid_equal, rowid_range}
use Rattle.std.specs.List.{AllByRecursion}
use Rattle.plan_choice.specs.CostLaws.{IsFlat, ArePlain}
use Rattle.plan_form.specs.Paths.{paths}
use Rattle.access_paths.specs.declared.found.Found.{Found}
use Rattle.access_paths.specs.Seeks.{SeenSeek, seen_seek, told_seek, IsPlain}

abbrev IsPlainSeek : Option Seek → Type 0
IsPlainSeek o = (k : Seek) → o ≡ Some k → is_union k.path ≡ false

some_plain : (k z : Seek) → is_union k.path ≡ false → Some k ≡ Some z → is_union z.path ≡ false
some_plain k z plain e = ap (λ (s : Seek). is_union s.path) (sym (same_Some k z e)) ∙ plain

pub index_plain : (index : ℕ) (taken : Taken) (used : List Term)
    → IsPlainSeek (seek_of index taken used)
index_plain index taken [] = λ k e. absurd (cc)
index_plain index taken (t ∷ ts) = λ k e. some_plain _ k refl e

range_plain : (low high : Option Term) → IsPlainSeek (rowid_range low high)
range_plain None None = λ k e. absurd (cc)
range_plain None (Some h) = λ k e. some_plain _ k refl e
range_plain (Some l) high = λ k e. some_plain _ k refl e

pub rowid_plain : (equal low high : Option Term)
    → IsPlainSeek (rowid_equal equal (rowid_range low high))
rowid_plain None low high = range_plain low high
rowid_plain (Some t) low high = λ k e. some_plain _ k refl e

pub found_plain : (covering : Bool) (found : Option Found) (o : Option Seek)
    → option_map seen_seek found ≡ option_map (told_seek covering) o
    → ((k : Seek) → o ≡ Some k → is_union k.path ≡ false) → IfSome found (IsPlain covering)
found_plain covering None o e h = tt
found_plain covering (Some f) None e h = absurd (cc)
found_plain covering (Some f) (Some k) e h =
    let same : seen_seek f ≡ told_seek covering k =
    same_Some (seen_seek f) (told_seek covering k) e in
    record {
      covers = ap (λ (z : SeenSeek). z.covering) same;
      plain = ap (λ (z : SeenSeek). is_union z.path) same ∙ h k refl;
    }

pub plain_is_flat : (path : Path) → is_union path ≡ false → IsFlat path
plain_is_flat TableScan h = tt
plain_is_flat (RowidEq part) h = tt
plain_is_flat (RowidRange low high) h = tt
plain_is_flat (IndexScan index) h = tt
plain_is_flat (IndexSeek index eqs low high) h = tt
plain_is_flat (Union branches) h = absurd (cc)

pub are_plain : (ps : List Path) → AllByRecursion (λ path. is_union path ≡ false) ps
    → ArePlain (paths ps)
are_plain [] h = tt
are_plain (p ∷ ps) h = (h.0, are_plain ps h.1)
