use Rattle.grammar_laws.proofs.ReadableTokens.{refused_for_depth_alone}
use Rattle.grammar_laws.proofs.laws.spelled_runs_are_refused_for_depth_alone.Goals as goal

pub returns : goal.returns
returns c = refused_for_depth_alone
