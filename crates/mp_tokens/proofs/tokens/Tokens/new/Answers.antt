use Rattle.std.proofs.Common.{sym, subst}
use Rattle.mp_tokens.specs.SetRows.{AreSetRows}
use Rattle.mp_tokens.proofs.Growing.{no_sets}
use Rattle.mp_tokens.proofs.tokens.Tokens.new.Goals as goal

pub add_set-requires-clause-rows : goal.add_set-requires-clause-rows
add_set-requires-clause-rows c = subst (AreSetRows c.args.start.size) (sym c.new-sets.ensures) (no_sets c.args.start.size)
