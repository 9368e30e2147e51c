use Rattle.mp_typing.proofs.Basics.{IfOk-weaker, List, sym, ap, subst, ◌∙◌, Decides, Factor, Typed, HasLower, IsA}
use Rattle.mp_typing.proofs.checked.CheckedFactor.is_a.Goals as goal

pub is_a-requires : goal.is_a-requires
is_a-requires c = subst (λ (ts : List Typed). HasLower ts c.self.inside.hierarchy.lower.entries) (sym c.types_of.ensures) c.self.invariant.1.lower

pub returns : goal.returns
returns c =
    let types = c.types_of.ensures ∙ ap (λ (f : Factor). f.domain.types) c.self.view_is in
    IfOk-weaker c.is_a.result _ _
    (λ answer decides. subst (λ (ts : List Typed). Decides answer (IsA ts c.args.sub.now c.args.sup.now)) types decides) c.is_a.ensures
