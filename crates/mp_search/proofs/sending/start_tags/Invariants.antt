use Rattle.std.proofs.Common.{◌≡◌, map, take}
use Rattle.mp_search.specs.AgentState.{start_tag}
use Rattle.mp_search.proofs.sending.start_tags.Given as goal

abbrev pub invariant-loop-met : goal.invariant-loop-met
invariant-loop-met l = l.tags ≡ map start_tag (take l.met-index l.met-items)
