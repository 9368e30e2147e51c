use Rattle.std.proofs.Common.{sym, ◌∙◌}
use Rattle.mp_applicable.proofs.FindingLemmas.{none_in}
use Rattle.mp_applicable.proofs.index.add_row.Goals as goal

pub returns-then-is_empty-clause-added : goal.returns-then-is_empty-clause-added
returns-then-is_empty-clause-added c = none_in _ c.args.list.now c.args.found.now.members (sym c.is_empty.ensures ∙ c.if-is_empty.true)
