use Rattle.std.proofs.Common.{◌≡◌, drop, map}
use Rattle.std.specs.List.{list_all}
use Rattle.schema_text.specs.TableTexts.{is_strict}
use Rattle.schema_text.proofs.table_texts.are_strict.Given as goal

abbrev pub invariant-loop-part : goal.invariant-loop-part
invariant-loop-part l =
    list_all (is_strict l.text) (map (λ part. part.now) l.parts)
    ≡ list_all (is_strict l.text) (map (λ part. part.now) (drop l.part-index l.parts))
