use Rattle.mp_top.proofs.Decided.{certifies_for}
use Rattle.mp_top.proofs.optimality.certify_for.Goals as goal

pub returns-in-Ok-clause-outcome : goal.returns-in-Ok-clause-outcome
returns-in-Ok-clause-outcome c =
    certifies_for c.args.limit c.args.team.now c.in-Ok.certified c.told_certified.result c.in-Ok.ensures.within c.in-Ok.ensures.certified
    c.told_certified.ensures
