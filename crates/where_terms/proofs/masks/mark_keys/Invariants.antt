use Rattle.std.proofs.Common.{◌≡◌, drop, map}
use Rattle.sql_bound.specs.Statements.{key_expr_of, key_exprs_of}
use Rattle.where_terms.specs.Masks.{marked_all, key_names}
use Rattle.where_terms.proofs.masks.mark_keys.Given as goal

abbrev pub invariant-loop-key : goal.invariant-loop-key
invariant-loop-key l =
    marked_all l.marked (key_names (map key_expr_of (drop l.key-index l.key-items)))
    ≡ marked_all l.fn.mask (key_names (key_exprs_of l.fn.keys))
