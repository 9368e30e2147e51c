use Rattle.std.proofs.Common.{◌≡◌, ◌<◌, ◌∙◌, ◌∷◌, [], ◌++◌, ap, subst, length, get_or, List}
use Rattle.mp_forms.specs.declared.schema_values.Schema.{Schema}
use Rattle.mp_lifting.proofs.Growing.{mapped_more}
use Rattle.mp_checker.specs.declared.numbered.NumberedAction.{NumberedAction}
use Rattle.mp_checker.specs.Numbering.{numbered_action}
use Rattle.mp_checker.proofs.actions.numbered_actions.Goals as goal

pub loop-schema-preserved : goal.loop-schema-preserved
loop-schema-preserved c =
    let l = c.loop-schema in
    let x = c.schema-item.result in
    let lt = subst (λ (xs : List Schema). l.schema-index < length xs) c.as_slice-schema-items.ensures c.loop-schema-test.true in
    let is = subst (λ (xs : List Schema). x ≡ get_or xs l.schema-index x) c.as_slice-schema-items.ensures c.schema-item.is in
    c.in_ok-push.ensures.ok ∙ ap (λ (y : NumberedAction). l.made ++ y ∷ []) c.in_ok-numbered_action.ensures
    ∙ mapped_more (numbered_action c.args.names.now c.args.factor.now) c.args.schemas.now l.schema-index x l.made lt is l.invariant
