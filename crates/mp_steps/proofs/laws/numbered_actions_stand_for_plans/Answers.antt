use Rattle.std.proofs.Common.{◌≡◌}
use Rattle.mp_steps.specs.Levels.{levels}
use Rattle.mp_steps.specs.Numbered.{clash_at}
use Rattle.mp_steps.specs.Interference.{interfere_at}
use Rattle.mp_steps.specs.Steps.{steps, chain}
use Rattle.mp_steps.proofs.laws.numbered_actions_stand_for_plans.Goals as goal

pub returns-clause-steps : goal.returns-clause-steps
returns-clause-steps c = λ team plan numbered long same.
    let tests : clash_at numbered ≡ interfere_at team plan = λ i t u. same t u i in
    λ i. steps (levels (tests i) (long i)) (long i)

pub returns-clause-chain : goal.returns-clause-chain
returns-clause-chain c = λ team plan numbered long same.
    let tests : clash_at numbered ≡ interfere_at team plan = λ i t u. same t u i in
    λ i. chain (tests i) (levels (tests i) (long i)) (long i)
