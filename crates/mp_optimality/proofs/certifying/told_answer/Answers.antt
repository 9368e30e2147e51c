use Rattle.mp_optimality.proofs.CertifiedRuns.{has_cost, told_solved}
use Rattle.mp_optimality.proofs.certifying.told_answer.Goals as goal

pub told_certificate-requires-clause-solved : goal.told_certificate-requires-clause-solved
told_certificate-requires-clause-solved c =
    has_cost c.args.world.now.world c.args.answer _ _ c.in-Solved.is c.requires.answer

pub returns-in-Solved : goal.returns-in-Solved
returns-in-Solved c =
    told_solved c.args.world.now.tasks c.args.world.now.world c.args.answer _ _ c.told_certificate.result c.in-Solved.is c.requires.answer
    c.told_certificate.ensures
