use Rattle.std.proofs.Common.{◌≡◌, drop}
use Rattle.mp_steps.specs.Numbered.{best_against}
use Rattle.mp_steps.proofs.facts.best_of.Given as goal

abbrev pub invariant-loop-fact : goal.invariant-loop-fact
invariant-loop-fact l = best_against l.marks l.role (drop l.fact-index l.facts) l.best ≡ best_against l.marks l.role l.facts l.fn.first
