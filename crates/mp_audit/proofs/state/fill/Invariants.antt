use Rattle.std.proofs.Common.{◌≡◌, take}
use Rattle.mp_audit.specs.Audited.{set_of}
use Rattle.mp_audit.proofs.state.fill.Given as goal

abbrev pub invariant-loop-fact : goal.invariant-loop-fact
invariant-loop-fact l = l.made ≡ record { size = l.fn.made.size; members = set_of (take l.fact-index l.facts) }
