use Rattle.std.proofs.Common.{◌≡◌, ◌++◌, ◌∷◌, [], Bor, List, map, take, sym, subst, ap, ◌∙◌}
use Rattle.std.proofs.lemmas.List.{take_all}
use Rattle.std.proofs.lemmas.List.Elements.{All-nil}
use Rattle.mp_stamps.specs.Turns.{IsTurn}
use Rattle.mp_stamps.specs.declared.stamped.Stamped.{Stamped}
use Rattle.mp_stamps.proofs.Filters.{length_map_take, map_more}
use Rattle.mp_stamps.proofs.merging.next_turn.Goals as goal

abbrev now : Bor (List Stamped) → List Stamped
now r = r.now

pub loop-at-init : goal.loop-at-init
loop-at-init c = All-nil (λ (list : List Stamped). list ≡ [])

pub loop-at-preserved : goal.loop-at-preserved
loop-at-preserved c = subst (λ (l : List (List Stamped)). IsTurn l c.turn_with-turn.result)
    (sym (map_more now c.args.rests.now c.loop-at.at c.index-rests-at.result c.loop-at-test.true
    ∙ ap (λ (r : Bor (List Stamped)). map now (take c.loop-at.at c.args.rests.now) ++ r.now ∷ []) (sym c.index-rests-at.is)))
    (c.turn_with-turn.ensures (map now (take c.loop-at.at c.args.rests.now))
    (length_map_take now c.args.rests.now c.loop-at.at c.loop-at.auto.at-end) c.loop-at.invariant)

pub returns : goal.returns
returns c = subst (λ (l : List (List Stamped)). IsTurn l c.loop-at.turn)
    (ap (map now) (take_all c.loop-at.at c.args.rests.now c.loop-at-test.false)) c.loop-at.invariant
