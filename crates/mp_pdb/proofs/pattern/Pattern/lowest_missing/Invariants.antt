use Rattle.std.proofs.Common.{◌≡◌, ◌+◌, map, take}
use Rattle.mp_estimates.specs.Estimates.{lesser}
use Rattle.mp_pdb.specs.Pattern.{least, missing_among}
use Rattle.mp_pdb.proofs.pattern.Pattern.lowest_missing.Given as goal

abbrev pub invariant-loop-k : goal.invariant-loop-k
invariant-loop-k l =
    l.lowest ≡ lesser l.initial.lowest (least (missing_among l.self.facts (map (λ k. l.offset + k) (take l.k-index l.facts))))
