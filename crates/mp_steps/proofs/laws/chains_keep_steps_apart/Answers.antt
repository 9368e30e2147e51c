use Rattle.std.proofs.Common.{length}
use Rattle.mp_steps.specs.Interference.{interfere_at}
use Rattle.mp_steps.specs.Levels.{levels}
use Rattle.mp_steps.specs.PlanSteps.{plan_steps, plan_chain}
use Rattle.mp_steps.proofs.LevelLemmas.{levels_are}
use Rattle.mp_steps.proofs.PackingLemmas.{are_packed}
use Rattle.mp_steps.proofs.ChainLemmas.{is_chain, fewest, neighbours}
use Rattle.mp_steps.proofs.laws.chains_keep_steps_apart.Goals as goal

pub returns-clause-chain : goal.returns-clause-chain
returns-clause-chain c = λ team plan.
    let interfere = interfere_at team plan in
    is_chain interfere (length plan) (levels interfere (length plan)) (levels_are interfere (length plan))

pub returns-clause-fewest : goal.returns-clause-fewest
returns-clause-fewest c = λ team plan packing packed.
    let interfere = interfere_at team plan in
    let n = length plan in
    let ls = levels interfere n in
    fewest interfere n (plan_steps team plan) (plan_chain team plan) (are_packed interfere n ls (levels_are interfere n))
    (is_chain interfere n ls (levels_are interfere n)) packing packed

pub returns-clause-neighbours : goal.returns-clause-neighbours
returns-clause-neighbours c = λ team plan place step next at behind.
    let interfere = interfere_at team plan in
    let n = length plan in
    let ls = levels interfere n in
    let h = neighbours interfere n (plan_steps team plan) (plan_chain team plan) (are_packed interfere n ls (levels_are interfere n))
    (is_chain interfere n ls (levels_are interfere n)) place step next at behind in
    (h.time, h.later, h.first, h.second, h.rises, h.meets)
