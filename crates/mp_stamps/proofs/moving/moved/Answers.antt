use Rattle.std.proofs.Common.{◌≡◌, subst, List}
use Rattle.mp_stamps.specs.Turns.{IsTurn, IsTurnOf}
use Rattle.mp_stamps.specs.declared.stamped.Stamped.{Stamped}
use Rattle.mp_stamps.specs.declared.merging.Turn.{Turn}
use Rattle.mp_stamps.proofs.ByTurns.{all_merged, begin, next, smaller}
use Rattle.mp_stamps.proofs.moving.moved.Goals as goal

-- the turn is one of the rests that were lent
lent : (xs ys : List (List Stamped)) (turn : Turn) → xs ≡ ys → IsTurnOf xs turn → IsTurnOf ys turn
lent xs ys turn e is = subst (λ (l : List (List Stamped)). IsTurnOf l turn) e is

pub turns-init : goal.turns-init
turns-init c = begin c.args.lists _ _ c.requires c.in_ok-rests.ensures c.in_ok-log.ensures

pub turns-preserved : goal.turns-preserved
turns-preserved c = next c.turns.rests.items c.in-Some.turn (lent _ _ c.in-Some.turn c.as_slice-in-turns.ensures.value c.in-Some.ensures)
    c.args.lists _ c.turns.log _ c.turns.invariant c.in_ok-take_turn.ensures.log c.in_ok-take_turn.ensures.rests

pub turns-smaller : goal.turns-smaller
turns-smaller c = smaller c.turns.rests.items c.in-Some.turn (lent _ _ c.in-Some.turn c.as_slice-in-turns.ensures.value c.in-Some.ensures)
    _ c.in_ok-take_turn.ensures.rests

pub returns : goal.returns
returns c = all_merged c.args.lists _ _ c.turns.invariant (subst (IsTurn c.turns.rests.items) c.in_default.is
    (subst (λ (l : List (List Stamped)). IsTurn l c.next_turn.result) c.as_slice-in-turns.ensures.value c.next_turn.ensures))
