use Rattle.mp_steps.proofs.packed.packing_of.Goals as goal

pub returns-clause-chain : goal.returns-clause-chain
returns-clause-chain c = λ interfere are. c.in_ok-chain.ensures interfere are (c.in_ok-steps.ensures interfere are)
