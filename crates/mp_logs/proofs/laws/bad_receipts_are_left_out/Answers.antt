use Rattle.mp_logs.proofs.Settled.{is_settled, settled}
use Rattle.mp_logs.proofs.laws.bad_receipts_are_left_out.Goals as goal

pub returns : goal.returns
returns c = λ team log served numbered history has.
    (settled team log served numbered history has, is_settled team log served numbered history has)
