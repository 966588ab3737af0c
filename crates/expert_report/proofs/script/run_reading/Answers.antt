use Rattle.std.proofs.Common.{refl}
use Rattle.expert_report.proofs.Parsed.{has_source, first_is_not_left, refused_by}
use Rattle.expert_report.proofs.script.run_reading.Goals as goal

pub tree_reading-requires : goal.tree_reading-requires
tree_reading-requires c = record {
  source = has_source c.in-Ok.ensures.found;
  first = first_is_not_left c.in-Ok.ensures.found;
}

pub returns-in_ok-parse_text-in-Err-clause-read : goal.returns-in_ok-parse_text-in-Err-clause-read
returns-in_ok-parse_text-in-Err-clause-read c =
    rw (
      refused_by c.args.schema.now c.args.text.now c.args.tokens.now _ c.in-Err.fault
          (c.spelled_where_read.ensures.read _) c.in_ok-parse_text-in-Err.ensures.memory
          c.in-Err.ensures.refused c.in-Err.ensures.otherwise c.in-Err.ensures.only,
      c.in_ok-parse_text-in-Err.ensures.text,
    ) refl
