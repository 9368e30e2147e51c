use Rattle.mp_top.proofs.Valid.{told_exactly}
use Rattle.mp_top.proofs.laws.valid_plans_are_told.Goals as goal

pub returns : goal.returns
returns c = λ held w first.
    told_exactly w.steps first.outcome.team first.outcome.told.plan first.ended first.text first.outcome.told.printed first.outcome.told.is_ended
