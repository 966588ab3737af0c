-- What the words of the command line say.
use Rattle.std.specs.Prelude.{ℕ, ◌||◌, Bool, true, false, List, [], ◌∷◌, ◌++◌, length, nat_lt}
use Rattle.std.specs.Prelude.{codes, None, Some, if◌then◌else◌, option_map, option_and_then}
use Rattle.std.specs.Prelude.{◌≡◌, ◌≤◌, ◌⊎◌, option_to_list, Contains, IsSomeAnd}
use Rattle.std.specs.declared.option.Option.{Option}
use Rattle.std.specs.Str.{bytes_eq}
use Rattle.sql_meaning.specs.Numbers.{digits_up_to}
use Rattle.stat_figures.specs.declared.sources.StatSource.{StatSource}
use Rattle.stat_figures.specs.declared.sources.StatSource.TheVariants.{Sampled, Given}

-- a piece of the script: a text, or the name of a file that holds it
pub data Piece : Type 0 where
  Sql : (text : List ℕ) → Piece
  File : (name : List ℕ) → Piece

-- what an option says with its value: a piece of the script, how many of a hundred rows are
-- sampled, where figures come from, or whether the report is the long one
pub data Setting : Type 0 where
  Script : (piece : Piece) → Setting
  Sample : (percent : ℕ) → Setting
  Stat : (source : StatSource) → Setting
  Verbose : (long : Bool) → Setting

-- each option has two spellings, with one dash and with two
abbrev pub is_option : List ℕ → List ℕ → List ℕ → Bool
is_option word one_dash two_dashes = bytes_eq word one_dash || bytes_eq word two_dashes

-- one to three digits that write at most 100
abbrev pub percent_of : List ℕ → Option ℕ
percent_of value = if nat_lt 3 (length value) then None else digits_up_to 100 value

abbrev pub source_of : List ℕ → Option StatSource
source_of value =
    if bytes_eq value (codes "sampled") then Some Sampled
    else if bytes_eq value (codes "given") then Some Given else None

abbrev pub verbose_of : List ℕ → Option Bool
verbose_of value =
    if bytes_eq value (codes "1") then Some true
    else if bytes_eq value (codes "0") then Some false else None

abbrev pub setting_of : List ℕ → List ℕ → Option Setting
setting_of option value =
    if is_option option (codes "-sql") (codes "--sql") then Some (Script (Sql value))
    else if is_option option (codes "-file") (codes "--file") then Some (Script (File value))
    else if is_option option (codes "-sample") (codes "--sample")
    then option_map Sample (percent_of value)
    else if is_option option (codes "-stat") (codes "--stat")
    then option_map Stat (source_of value)
    else if is_option option (codes "-verbose") (codes "--verbose")
    then option_map Verbose (verbose_of value)
    else None

-- a percentage is at most 100
abbrev pub IsFew : Setting → Type 0
IsFew (Script piece) = Unit {0}
IsFew (Sample percent) = percent ≤ 100
IsFew (Stat source) = Unit {0}
IsFew (Verbose long) = Unit {0}

-- settings, and the file of a database
pub record Spelled : Type 0 where
  pub settings : List Setting
  pub database : List ℕ

abbrev pub with_setting : Setting → Spelled → Spelled
with_setting setting spelled =
    record { settings = setting ∷ spelled.settings; database = spelled.database }

-- any number of pairs of an option and its value, and then the name of the database
abbrev pub spelled : List (List ℕ) → Option Spelled
spelled [] = None
spelled (database ∷ []) = Some (record { settings = []; database = database })
spelled (option ∷ value ∷ words) =
    option_and_then (λ setting. option_map (with_setting setting) (spelled words))
    (setting_of option value)

-- the settings of the pairs that are some
abbrev pub settings_among : List (List ℕ) → List Setting
settings_among (option ∷ value ∷ words) =
    option_to_list (setting_of option value) ++ settings_among words
settings_among words = []

-- the pieces of the script, in the order of the words
abbrev pub pieces_of : List Setting → List Piece
pieces_of [] = []
pieces_of (Script piece ∷ settings) = piece ∷ pieces_of settings
pieces_of (setting ∷ settings) = pieces_of settings

-- of the settings that don't repeat the last one counts, or the default where there is none
abbrev pub percent_in : ℕ → List Setting → ℕ
percent_in default [] = default
percent_in default (Sample percent ∷ settings) = percent_in percent settings
percent_in default (setting ∷ settings) = percent_in default settings

abbrev pub source_in : StatSource → List Setting → StatSource
source_in default [] = default
source_in default (Stat source ∷ settings) = source_in source settings
source_in default (setting ∷ settings) = source_in default settings

abbrev pub verbose_in : Bool → List Setting → Bool
verbose_in default [] = default
verbose_in default (Verbose long ∷ settings) = verbose_in long settings
verbose_in default (setting ∷ settings) = verbose_in default settings

-- what is asked for
pub record Command : Type 0 where
  pub pieces : List Piece
  pub percent : ℕ
  pub source : StatSource
  pub verbose : Bool
  pub database : List ℕ

abbrev pub command_with : ℕ → StatSource → Bool → Spelled → Command
command_with percent source verbose spelled = record {
  pieces = pieces_of spelled.settings;
  percent = percent_in percent spelled.settings;
  source = source_in source spelled.settings;
  verbose = verbose_in verbose spelled.settings;
  database = spelled.database;
}

-- the command that the words spell: all rows are sampled, and the report is short, unless they say
-- something else
abbrev pub command_of : List (List ℕ) → Option Command
command_of words = option_map (command_with 100 Sampled false) (spelled words)

-- a file that the words name: that of the database, or one of a piece
abbrev pub Names : List (List ℕ) → List ℕ → Type 0
Names words name = IsSomeAnd (command_of words) (λ command.
    (name ≡ command.database) ⊎ Contains command.pieces (File name))

abbrev pub database_in : Option Command → List ℕ
database_in None = []
database_in (Some command) = command.database

-- the name of the database that the words name
abbrev pub database_of : List (List ℕ) → List ℕ
database_of words = database_in (command_of words)
