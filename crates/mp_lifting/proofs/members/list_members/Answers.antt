use Rattle.mp_lifting.proofs.Basics.{◌∙◌, List, ℕ, subst, Members}
use Rattle.mp_typing.specs.ObjectList.{object_list}
use Rattle.mp_lifting.proofs.MemberPlaces.{members_are}
use Rattle.mp_lifting.proofs.members.list_members.Goals as goal

pub returns : goal.returns
returns c =
    let f = c.args.factor.now in
    let objects = object_list f.domain f.problem in
    c.in_ok-made.ensures
    ∙ members_are f.domain.types objects _ _
    (subst (λ (names : List (List ℕ)). Members f.domain.types objects names c.in_ok-numbers.numbers) c.in_ok-asked.ensures c.in_ok-numbers.ensures)
