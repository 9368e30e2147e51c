use Rattle.mp_reach.specs.LeadsOn.{IsAny, IsRoot, LeadsOn}
use Rattle.mp_reach.proofs.NothingLeftOut.{nothing_left_out}
use Rattle.mp_reach.proofs.laws.nothing_is_left_out.Goals as goal

pub returns : goal.returns
returns g c = λ tasks found x. nothing_left_out (LeadsOn tasks) IsAny (IsRoot tasks) (λ k. tt) found x
