use Rattle.std.proofs.Common.{ap, ◌∙◌}
use Rattle.mp_relaxed.specs.Relaxed.{state_of}
use Rattle.mp_hmax.specs.Hmax.{hmax_of}
use Rattle.mp_hmax.proofs.hmax.estimate.Goals as goal

pub returns-clause-found : goal.returns-clause-found
returns-clause-found c =
    let r = c.args.problem.now in
    c.in_ok-found.ensures.value
    ∙ ap (λ goals. hmax_of r.operators goals (state_of r c.args.publics.now.members c.args.privates.now.members)) c.goals.ensures.value
