use Rattle.std.proofs.Common.{◌≡◌, true, false, arith}
use Rattle.mp_certify.proofs.team.agent_at.Goals as goal

pub unreachable-requires : goal.unreachable-requires
unreachable-requires c = let impossible : false ≡ true = c.in-None.ensures.some.1 (omega arith, omega arith) in absurd cc
