use Rattle.mp_relaxed.proofs.KeptLemmas.{kept_push}
use Rattle.mp_relaxed.proofs.kept.keep.Goals as goal

pub returns-clause-kept : goal.returns-clause-kept
returns-clause-kept c =
    kept_push c.args.problem.now.operators c.args.k c.args.kept.now.items c.requires.kept c.push.new.self.items c.requires.operator c.in_ok-push.ensures.items
