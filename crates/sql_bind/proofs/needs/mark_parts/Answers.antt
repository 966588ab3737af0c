use Rattle.std.proofs.Common.{map}
use Rattle.sql_bound.specs.Statements.{conjunct_of, sort_key_of}
use Rattle.sql_bind.specs.Views.{results_seen}
use Rattle.sql_bind.proofs.MarkLaws.{marks_parts}
use Rattle.sql_bind.proofs.needs.mark_parts.Goals as goal

pub returns : goal.returns
returns c =
    marks_parts c.args.item (map (λ r. r.expr) (results_seen c.args.parts.now.results.now))
    (map (λ t. t.expr) (map conjunct_of c.args.parts.now.terms.now))
    (map (λ k. k.expr) (map sort_key_of c.args.parts.now.keys.now))
    c.args.marks.now c.mark_results.new.marks c.mark_terms.new.marks c.mark_keys.new.marks
    c.mark_results.ensures c.mark_terms.ensures c.mark_keys.ensures
