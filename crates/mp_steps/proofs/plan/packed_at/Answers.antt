use Rattle.std.proofs.Common.{◌∙◌}
use Rattle.mp_steps.specs.Numbered.{clash_at}
use Rattle.mp_steps.proofs.StandLemmas.{met_chain, met_steps}
use Rattle.mp_steps.proofs.plan.packed_at.Goals as goal

pub returns-clause-steps : goal.returns-clause-steps
returns-clause-steps c = λ team plan h. c.in_ok-packing.ensures.steps (clash_at h.steps) h.met ∙ met_steps team plan c.args.mets.now h

pub returns-clause-chain : goal.returns-clause-chain
returns-clause-chain c = λ team plan h. c.in_ok-packing.ensures.chain (clash_at h.steps) h.met ∙ met_chain team plan c.args.mets.now h
