-- Lemmas on what words spell.
use Rattle.std.proofs.Common.{◌≡◌, ℕ, false, List, [], ◌∷◌, Option, None, Some, refl, ap}
use Rattle.std.proofs.Common.{◌∙◌, sym, ◌++◌, length, take, drop, get_or, ◌-◌, ◌≤◌, arith}
use Rattle.std.proofs.lemmas.List.{take_all}
use Rattle.sql_meaning.specs.Numbers.{digits_up_to}
use Rattle.sql_meaning.proofs.Reading.{upto_parts}
use Rattle.std.specs.Prelude.{option_map, option_and_then, option_to_list, unwrap_or}
use Rattle.stat_figures.specs.declared.sources.StatSource.TheVariants.{Sampled}
use Rattle.expert_main.specs.Seen.{completed}
use Rattle.expert_main.specs.Words.{Setting, Spelled, Command, command_of, command_with}
use Rattle.expert_main.specs.Words.{setting_of, settings_among, spelled, with_setting}
use Rattle.expert_main.specs.declared.words.Command as code

with_first : (first : Option Setting) (behind : Option Spelled) (among : List Setting)
    (found : Spelled)
    → ((rest : Spelled) → behind ≡ Some rest → among ≡ rest.settings)
    → option_and_then (λ setting. option_map (with_setting setting) behind) first ≡ Some found
    → option_to_list first ++ among ≡ found.settings
with_first None behind among found h e = absurd (cc)
with_first (Some setting) None among found h e = absurd (cc)
with_first (Some setting) (Some rest) among found h e =
    rw (h rest refl) (ap (λ (s : Option Spelled). (unwrap_or s found).settings) e)

-- words that spell a command have its settings among them
pub among : (words : List (List ℕ)) (found : Spelled) → spelled words ≡ Some found
    → settings_among words ≡ found.settings
among [] found e = absurd (cc)
among (database ∷ []) found e = search e
among (option ∷ value ∷ words) found e =
    with_first (setting_of option value) (spelled words) (settings_among words) found
    (among words) e

begun_on : (command : code.Command) (words : List (List ℕ)) (found : Option Spelled)
    → ((some : Spelled) → found ≡ Some some → settings_among words ≡ some.settings)
    → command.words.now ≡ words → command.percent ≡ 100 → command.source ≡ Sampled
    → command.verbose ≡ false
    → option_map (command_with 100 Sampled false) found ≡ option_map (completed command) found
begun_on command words None h w p s v = refl
begun_on command words (Some found) h w p s v = rw (w, p, s, v, h found refl) refl

-- at first all is still to come
pub begun : (command : code.Command) (words : List (List ℕ)) → command.words.now ≡ words
    → command.percent ≡ 100 → command.source ≡ Sampled → command.verbose ≡ false
    → command_of words ≡ option_map (completed command) (spelled words)
begun command words w p s v = begun_on command words (spelled words) (among words) w p s v

gone_on_with : (behind : Option Spelled) (setting : Setting) (before after : Spelled → Command)
    → ((some : Spelled) → after some ≡ before (with_setting setting some))
    → option_map before (option_map (with_setting setting) behind) ≡ option_map after behind
gone_on_with None setting before after step = refl
gone_on_with (Some behind) setting before after step = ap Some (sym (step behind))

-- a pair that was read is one of those that come first
pub gone_on : (option value : List ℕ) (words : List (List ℕ)) (setting : Setting)
    (before after : Spelled → Command) → setting_of option value ≡ Some setting
    → ((behind : Spelled) → after behind ≡ before (with_setting setting behind))
    → option_map before (spelled (option ∷ value ∷ words)) ≡ option_map after (spelled words)
gone_on option value words setting before after e step =
    rw e (gone_on_with (spelled words) setting before after step)

-- the same of the words that are left, of which two are taken off
pub two_gone : (rest : List (List ℕ)) (option value : List ℕ) (setting : Setting)
    (before after : Spelled → Command) → 2 ≤ length rest
    → option ≡ get_or rest 0 option → value ≡ get_or rest 1 value
    → Some setting ≡ setting_of option value
    → ((behind : Spelled) → after behind ≡ before (with_setting setting behind))
    → option_map before (spelled rest)
    ≡ option_map after (spelled (take (length rest - 2) (drop 2 rest)))
two_gone [] option value setting before after h o v e step = absurd (omega arith)
two_gone (first ∷ []) option value setting before after h o v e step = absurd (omega arith)
two_gone (first ∷ second ∷ words) option value setting before after h o v e step =
    rw (take_all (length (first ∷ second ∷ words) - 2) words (omega arith))
    (gone_on first second words setting before after
    (ap (λ (x : List ℕ). setting_of x second) (sym o)
    ∙ (ap (λ (x : List ℕ). setting_of option x) (sym v) ∙ sym e)) step)

pub percent_few : (value : List ℕ) (percent : ℕ) → digits_up_to 100 value ≡ Some percent
    → percent ≤ 100
percent_few value percent e = (upto_parts 100 percent value e).1
