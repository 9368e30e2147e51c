use Rattle.mp_lifting.proofs.Basics.{◌≡◌, ◌<◌, ◌∙◌, ◌∷◌, [], ◌++◌, ap, subst, length, get_or, List, Schema, lifted_action, is_of}
use Rattle.mp_lifted.specs.declared.lifted.LiftedAction.{LiftedAction}
use Rattle.mp_lifting.proofs.Growing.{mapped_more}
use Rattle.mp_lifting.proofs.factors.lifted_actions.Goals as goal

pub loop-schema-preserved : goal.loop-schema-preserved
loop-schema-preserved c =
    let l = c.loop-schema in
    let s = c.args.shown.now in
    let x = c.schema-item.result in
    let lt = subst (λ (xs : List Schema). l.schema-index < length xs) c.as_slice-schema-items.ensures c.loop-schema-test.true in
    let is = subst (λ (xs : List Schema). x ≡ get_or xs l.schema-index x) c.as_slice-schema-items.ensures c.schema-item.is in
    c.in_ok-push.ensures.ok ∙ ap (λ (y : LiftedAction). l.made ++ y ∷ []) c.in_ok-lift_action.ensures
    ∙ mapped_more (lifted_action c.args.vocabulary.now (is_of s.privates s.own s.shown) c.args.factor.now) c.args.schemas.now l.schema-index x l.made lt is l.invariant
