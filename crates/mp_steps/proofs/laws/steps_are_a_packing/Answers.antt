use Rattle.std.proofs.Common.{length}
use Rattle.mp_steps.specs.Interference.{interfere_at}
use Rattle.mp_steps.specs.Levels.{levels}
use Rattle.mp_steps.proofs.LevelLemmas.{levels_are}
use Rattle.mp_steps.proofs.PackingLemmas.{are_packed}
use Rattle.mp_steps.proofs.laws.steps_are_a_packing.Goals as goal

pub returns : goal.returns
returns c = λ team plan.
    let interfere = interfere_at team plan in
    are_packed interfere (length plan) (levels interfere (length plan)) (levels_are interfere (length plan))
