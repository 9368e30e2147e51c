use Rattle.std.proofs.Common.{◌∙◌, List, ℕ, subst}
use Rattle.mp_typing.specs.Members.{Members}
use Rattle.mp_typing.specs.ObjectList.{object_list}
use Rattle.mp_lifting.proofs.MemberPlaces.{members_are}
use Rattle.mp_checker.specs.Numbering.{flags_at}
use Rattle.mp_checker.proofs.members.member_flags.Goals as goal

pub returns : goal.returns
returns c =
    let f = c.args.factor.now in
    let objects = object_list f.domain f.problem in
    let members = members_are f.domain.types objects _ _
    (subst (λ (names : List (List ℕ)). Members f.domain.types objects names c.in_ok-numbers.numbers) c.in_ok-asked.ensures c.in_ok-numbers.ensures) in
    c.in_ok-flags.ensures ∙ (λ i. flags_at (c.requires i) (members i))
