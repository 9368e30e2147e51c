use Rattle.std.proofs.Common.{◌≡◌, ℕ, ◌<◌, Bor, map, subst, List}
use Rattle.std.proofs.lemmas.List.{length-map}
use Rattle.mp_stamps.specs.Turns.{IsTurn, IsTurnOf}
use Rattle.mp_stamps.specs.declared.stamped.Stamped.{Stamped}
use Rattle.mp_stamps.specs.declared.merging.Turn.{Turn}
use Rattle.mp_stamps.proofs.ByTurns.{all_merged, begin, next, smaller, within}
use Rattle.mp_stamps.proofs.merging.merged.Goals as goal

abbrev now : Bor (List Stamped) → List Stamped
now r = r.now

-- the turn is one of the rests that were lent
lent : (xs ys : List (Bor (List Stamped))) (turn : Turn) → xs ≡ ys → IsTurnOf (map now xs) turn → IsTurnOf (map now ys) turn
lent xs ys turn e is = subst (λ (l : List (Bor (List Stamped))). IsTurnOf (map now l) turn) e is

pub turns-init : goal.turns-init
turns-init c = begin c.args.lists.now _ _ c.requires c.in_ok-rests.ensures c.in_ok-log.ensures

pub take_turn-requires : goal.take_turn-requires
take_turn-requires c = subst (λ (n : ℕ). c.in-Some.turn.at < n) (length-map c.turns.rests.items now)
    (within (map now c.turns.rests.items) c.in-Some.turn (lent _ _ c.in-Some.turn c.as_slice-in-turns.ensures.value c.in-Some.ensures))

pub turns-preserved : goal.turns-preserved
turns-preserved c = next (map now c.turns.rests.items) c.in-Some.turn (lent _ _ c.in-Some.turn c.as_slice-in-turns.ensures.value c.in-Some.ensures)
    c.args.lists.now _ c.turns.log _ c.turns.invariant c.in_ok-take_turn.ensures.log c.in_ok-take_turn.ensures.rests

pub turns-smaller : goal.turns-smaller
turns-smaller c = smaller (map now c.turns.rests.items) c.in-Some.turn (lent _ _ c.in-Some.turn c.as_slice-in-turns.ensures.value c.in-Some.ensures)
    _ c.in_ok-take_turn.ensures.rests

pub returns : goal.returns
returns c = all_merged c.args.lists.now _ _ c.turns.invariant (subst (IsTurn (map now c.turns.rests.items)) c.in_default.is
    (subst (λ (l : List (Bor (List Stamped))). IsTurn (map now l) c.next_turn.result) c.as_slice-in-turns.ensures.value c.next_turn.ensures))
