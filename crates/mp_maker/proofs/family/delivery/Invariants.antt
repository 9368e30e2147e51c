use Rattle.std.proofs.Common.{◌≡◌, ◌-◌, ◌+◌, ◌++◌, ◌∷◌, []}
use Rattle.std.specs.List.{flat_map, range_with_len}
use Rattle.mp_maker.specs.Domain.{domain}
use Rattle.mp_maker.specs.Problem.{problem}
use Rattle.mp_maker.specs.Delivery.{delivery}
use Rattle.mp_maker.proofs.family.delivery.Given as goal

-- the files so far and those of the agents that are left make the whole
abbrev pub invariant-loop-agent : goal.invariant-loop-agent
invariant-loop-agent l =
    l.texts ++ flat_map (λ agent. domain ∷ problem l.size l.number agent ∷ []) (range_with_len l.agent ((l.size + 1) - l.agent))
    ≡ delivery l.size l.number
