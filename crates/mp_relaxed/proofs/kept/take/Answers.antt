use Rattle.std.proofs.Common.{sym, ◌∙◌}
use Rattle.mp_relaxed.proofs.KeptLemmas.{kept_left}
use Rattle.mp_relaxed.proofs.kept.take.Goals as goal

pub returns-then-is_empty-clause-kept : goal.returns-then-is_empty-clause-kept
returns-then-is_empty-clause-kept c =
    kept_left c.args.problem.now.operators c.args.k c.args.kept.now.items c.requires.kept c.add.result.now c.add.ensures.value (sym c.is_empty.ensures ∙ c.if-is_empty.true)
