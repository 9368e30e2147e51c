use Rattle.std.proofs.Common.{take}
use Rattle.mp_stamps.specs.Turns.{IsTurn}
use Rattle.mp_stamps.proofs.moving.next_turn.Given as goal

-- the turn among the first lists
abbrev pub invariant-loop-at : goal.invariant-loop-at
invariant-loop-at l = IsTurn (take l.at l.rests) l.turn
