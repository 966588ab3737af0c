-- What seeks are seen as.
use Rattle.std.specs.Prelude.{◌≡◌, Bool, false, ℕ, List}
use Rattle.sql_meaning.specs.Paths.{Path, is_union}
use Rattle.sql_meaning.specs.Choices as meant
use Rattle.plan_form.specs.Paths.{path_of}
use Rattle.plan_form.specs.Plans.{covers}
use Rattle.plan_form.specs.declared.path.Path.{Path as OwnPath}
use Rattle.sql_meaning.specs.Terms.{Term}
use Rattle.access_paths.specs.declared.found.Found.{Found}

-- a seek, with the conjuncts of the terms that it uses in place of these terms
pub record SeenSeek : Type 0 where
  pub path : Path
  pub covering : Bool
  pub consumed : List ℕ

abbrev pub seen_seek : Found → SeenSeek
seen_seek f = record {
  path = path_of f.path.now;
  covering = covers f.path.now;
  consumed = f.consumed.now;
}

-- what is to be seen of a path with the terms that it uses
abbrev pub path_by : OwnPath → List Term → SeenSeek
path_by path used = record {
  path = path_of path;
  covering = covers path;
  consumed = meant.consumed_of used;
}

-- what is to be seen of a seek that is defined
abbrev pub told_seek : Bool → meant.Seek → SeenSeek
told_seek covering k = record {
  path = k.path;
  covering = covering;
  consumed = meant.consumed_of k.used;
}

-- no union; and covering, or not
pub record IsPlain (covering : Bool) (f : Found) : Type 0 where
  pub covers : covers f.path.now ≡ covering
  pub plain : is_union (path_of f.path.now) ≡ false
