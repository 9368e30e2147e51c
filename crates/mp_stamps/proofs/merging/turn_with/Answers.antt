use Rattle.std.proofs.Common.{◌++◌, ◌∷◌, [], List, sym, subst, arith}
use Rattle.std.proofs.lemmas.List.{nil_from_length}
use Rattle.mp_stamps.specs.Turns.{IsTurn}
use Rattle.mp_stamps.specs.declared.stamped.Stamped.{Stamped}
use Rattle.mp_stamps.proofs.Turns.{begins_at, turn_stays}
use Rattle.mp_stamps.proofs.merging.turn_with.Goals as goal

pub returns-in_default : goal.returns-in_default
returns-in_default c = λ rests long is. subst (λ (l : List Stamped). IsTurn (rests ++ l ∷ []) c.args.turn)
    (sym (nil_from_length c.args.rest.now (omega (arith, c.in_default.len_below)))) (turn_stays rests c.args.turn is)

pub returns : goal.returns
returns c = λ rests long is. c.turn_with_stamp.ensures rests c.args.rest.now long
    (begins_at c.args.rest.now c.first-item.result c.in-len1-up.len_at_least c.first-item.is) is
