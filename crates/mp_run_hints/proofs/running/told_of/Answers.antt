use Rattle.std.proofs.Common.{subst, sym}
use Rattle.mp_run_hints.specs.Answered.{IsAnswerOf}
use Rattle.mp_run_hints.proofs.running.told_of.Goals as goal

pub returns : goal.returns
returns g c =
    let r = c.args.world.now in
    subst (λ a. IsAnswerOf g.H.Heuristic.value r.limit r.tasks a) (sym c.in_ok-whole.ensures) c.in_ok-outcome.ensures
