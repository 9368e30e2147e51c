use Rattle.mp_typing.proofs.Basics.{IfOk-weaker, List, sym, subst, Factor, Typed, HasLower, IsHierarchy, Members}
use Rattle.mp_typing.specs.ObjectList.{object_list}
use Rattle.mp_typing.proofs.checked.CheckedFactor.members.Goals as goal

pub members-requires : goal.members-requires
members-requires c = subst (λ (ts : List Typed). HasLower ts c.self.inside.hierarchy.lower.entries) (sym c.types_of.ensures) c.self.invariant.1.lower

pub returns : goal.returns
returns c =
    let h = c.self.inside.hierarchy in
    let f = c.self.inside.factor in
    IfOk-weaker c.members.result _ _
    (λ numbers are. subst (λ (g : Factor). Members g.domain.types (object_list g.domain g.problem) c.args.asked.now numbers) c.self.view_is
    (subst (λ (ts : List Typed). IsHierarchy ts (object_list f.domain f.problem) h → Members ts (object_list f.domain f.problem) c.args.asked.now numbers) c.types_of.ensures
    (are (object_list f.domain f.problem)) c.self.invariant.1))
    c.members.ensures
