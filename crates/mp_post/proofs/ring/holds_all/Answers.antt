use Rattle.std.proofs.Common.{◌≡◌, subst}
use Rattle.std.specs.Prelude.{All, length, true}
use Rattle.mp_post_rule.specs.Kinds.{HoldsAll}
use Rattle.mp_post.specs.Desks.{SeenDesk}
use Rattle.mp_post.proofs.Lists.{all_marked, second}
use Rattle.mp_post.proofs.ring.holds_all.Goals as goal

pub returns : goal.returns
returns c = λ marked.
    let v = c.desk.inside.seat.me.0 in
    let lists = second c.desk.invariant in
    subst (λ (d : SeenDesk). HoldsAll (length d.view.parties) d.view) c.desk.view_is
    (all_marked v c.desk.inside.held.items lists.1 (subst (All (λ mark. mark ≡ true)) c.as_slice.ensures.value (c.are_marked.ensures marked)))
