use Rattle.std.proofs.Common.{◌++◌, ◌∷◌, [], List, sym, subst}
use Rattle.mp_stamps.specs.Turns.{BeginsWith, IsTurn}
use Rattle.mp_stamps.specs.declared.stamped.Stamped.{Stamped}
use Rattle.mp_stamps.proofs.Turns.{turn_stays}
use Rattle.mp_stamps.proofs.moving.turn_with.Goals as goal

pub returns-in_default : goal.returns-in_default
returns-in_default c = λ rests long is. subst (λ (l : List Stamped). IsTurn (rests ++ l ∷ []) c.args.turn)
    (sym (subst (λ first. BeginsWith first c.args.rest.now) c.in_default.is c.first_stamp.ensures)) (turn_stays rests c.args.turn is)

pub returns : goal.returns
returns c = λ rests long is. c.turn_with_stamp.ensures rests c.args.rest.now long
    (subst (λ first. BeginsWith first c.args.rest.now) c.in-Some.is c.first_stamp.ensures) is
