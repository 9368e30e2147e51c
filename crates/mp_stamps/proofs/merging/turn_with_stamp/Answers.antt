use Rattle.std.proofs.Common.{ℕ, ◌++◌, ◌∷◌, [], sym, subst, arith}
use Rattle.mp_stamps.specs.Turns.{IsTurn, IsTurnOf}
use Rattle.mp_stamps.proofs.Turns.{bounded_turn, earlier_turn, first_turn}
use Rattle.mp_stamps.proofs.merging.turn_with_stamp.Goals as goal

pub returns-in_default : goal.returns-in_default
returns-in_default c = λ rests list long begins is.
    first_turn rests list _ (subst (IsTurn rests) c.in_default.is is) long begins (omega (arith, c.ranges.stamp.fits))

pub returns-then-stamp-turn : goal.returns-then-stamp-turn
returns-then-stamp-turn c = λ rests list long begins is.
    earlier_turn rests list c.in-Some.turn _ (subst (IsTurn rests) c.in-Some.is is) long begins c.if-stamp-turn.true (omega (arith, c.if-stamp-turn.true))

pub returns : goal.returns
returns c = λ rests list long begins is.
    subst (λ (n : ℕ). IsTurnOf (rests ++ list ∷ []) (record { at = c.in-Some.turn.at; stamp = c.in-Some.turn.stamp; last = n })) (sym c.min.ensures)
    (bounded_turn rests list c.in-Some.turn c.args.stamp (subst (IsTurn rests) c.in-Some.is is) begins c.if-stamp-turn.false)
