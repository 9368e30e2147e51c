use Rattle.std.proofs.Common.{◌≡◌, take}
use Rattle.mp_search.specs.AgentState.{with_tag}
use Rattle.mp_search.proofs.sending.with_tag.Given as goal

abbrev pub invariant-loop-i : goal.invariant-loop-i
invariant-loop-i l = l.made ≡ take l.i (with_tag l.tags l.agent l.tag)
