use Rattle.mp_lifting.proofs.Basics.{◌≡◌, ◌∙◌, ap, map, subst, List, Factor, Shown, lifted_action, is_of}
use Rattle.std.specs.Prelude.{IfOk}
use Rattle.mp_lifted.specs.declared.lifted.LiftedAction.{LiftedAction}
use Rattle.mp_lifting.specs.Views.{is_changed}
use Rattle.mp_lifting.proofs.factors.actions_of.Goals as goal

pub returns : goal.returns
returns c =
    let factor = c.args.factor.now in
    let names = c.args.vocabulary.now in
    let changes = c.in_ok-changes.changes in
    let whole : Factor = c.factor-whole.result.now in
    let actions : Shown → Factor → List LiftedAction =
    λ s w. map (lifted_action names (is_of s.privates s.own s.shown) factor) w.domain.schemas in
    let same =
    ap (actions changes) c.whole.view_is ∙ ap (λ (s : Shown). actions s whole) c.in_ok-changes.ensures
    ∙ ap (λ (w : Factor). map (lifted_action names (is_changed w c.args.view.now) factor) w.domain.schemas) c.factor-whole.ensures.same in
    subst (λ (xs : List LiftedAction). IfOk c.lifted_actions.result (λ made. made ≡ xs)) same c.lifted_actions.ensures
