use Rattle.mp_lifting.proofs.Basics.{◌≡◌, map, take, lifted_action, is_of}
use Rattle.mp_lifting.proofs.factors.lifted_actions.Given as goal

abbrev pub invariant-loop-schema : goal.invariant-loop-schema
invariant-loop-schema l =
    l.made ≡ map (lifted_action l.vocabulary (is_of l.shown.privates l.shown.own l.shown.shown) l.factor)
    (take l.schema-index l.schemas)
