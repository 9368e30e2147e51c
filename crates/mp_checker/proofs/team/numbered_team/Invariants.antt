use Rattle.std.proofs.Common.{◌≡◌, ◌++◌, ◌+◌, drop}
use Rattle.mp_checker.specs.AgentView.{views_from}
use Rattle.mp_checker.proofs.team.numbered_team.Given as goal

abbrev pub invariant-loop-place : goal.invariant-loop-place
invariant-loop-place l = l.team.items ++ views_from l.names (l.place + 1) (drop l.place l.factors) ≡ views_from l.names 1 l.factors
