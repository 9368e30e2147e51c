use Rattle.std.proofs.Common.{take}
use Rattle.mp_outcome.specs.Names.{names_of}
use Rattle.mp_outcome.specs.Renumbered.{AreRenumbered}
use Rattle.mp_outcome.proofs.text.named_shares.Given as goal

-- the agents so far have their names
abbrev pub invariant-loop-place : goal.invariant-loop-place
invariant-loop-place l =
    AreRenumbered (names_of l.factors l.steps) (take l.place l.shares) l.named.names.items l.named.shares
