use Rattle.std.proofs.Common.{◌≡◌, ◌++◌, drop, codes, decimal}
use Rattle.std.specs.List.{flat_map}
use Rattle.mp_plans.proofs.packed.push_times.Given as goal

-- the text so far and the times that are left make the whole
abbrev pub invariant-loop-time : goal.invariant-loop-time
invariant-loop-time l =
    l.text ++ flat_map (λ t. codes " " ++ decimal t) (drop l.time-index l.times)
    ≡ l.fn.text ++ flat_map (λ t. codes " " ++ decimal t) l.times
