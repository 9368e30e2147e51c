use Rattle.std.proofs.Common.{map, take}
use Rattle.mp_ground_laws.specs.Named.{step_of}
use Rattle.mp_outcome.specs.Renumbered.{IsRenumbered}
use Rattle.mp_outcome.proofs.named.named_share.Given as goal

-- the actions so far have their names
abbrev pub invariant-loop-timed : goal.invariant-loop-timed
invariant-loop-timed l =
    IsRenumbered (map (step_of l.me l.factor) l.steps) (take l.timed-index l.share) l.named.names l.named.share
