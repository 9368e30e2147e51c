use Rattle.std.proofs.Common.{◌-◌, List, [], get_or, set, sym, ap, subst, ◌∙◌}
use Rattle.std.specs.Prelude.{Bool, true}
use Rattle.mp_stamps.specs.declared.stamped.Stamped.{Stamped}
use Rattle.mp_post.specs.Desks.{HoldsParty, SeenDesk}
use Rattle.mp_post.proofs.Lists.{second}
use Rattle.mp_post.proofs.Splitting.{left_lists, right_lists}
use Rattle.mp_post.proofs.desk.Desk.split.Goals as goal

pub invariant_of-self : goal.invariant_of-self
invariant_of-self g c =
    let v = c.self.inside.seat.me.0 in
    let a = c.args.party in
    let holds : HoldsParty a v = subst (λ (d : SeenDesk). HoldsParty a d.view) (sym c.self.view_is) c.requires.held in (
      c.parted-seat.ensures.free.0,
      left_lists c.self.inside.lists c.self.inside.held.items v (second c.self.invariant) a holds c.parted-seat.new.seat.me.0
          c.move_party.new.lists c.move_party.new.held.items
          (ap (λ x. x.parties) c.parted-seat.ensures.split.left_is) c.move_party.ensures.lists c.move_party.ensures.held,
    )

pub invariant_of-result : goal.invariant_of-result
invariant_of-result g c =
    let v = c.self.inside.seat.me.0 in
    let a = c.args.party in
    let holds : HoldsParty a v = subst (λ (d : SeenDesk). HoldsParty a d.view) (sym c.self.view_is) c.requires.held in (
      c.parted-seat.ensures.free.1,
      right_lists c.self.inside.lists c.self.inside.held.items v (second c.self.invariant) a holds c.parted-seat.result.me.0
          c.len-agents.result c.move_party.new.new c.move_party.new.new_held.items
          (ap (λ x. x.parties) c.parted-seat.ensures.split.right_is) c.len-agents.ensures
          (c.move_party.ensures.new ∙ ap (λ (l : List (List Stamped)). set l (a - 1) (get_or c.self.inside.lists (a - 1) [])) c.in_ok-lists.ensures)
          (c.move_party.ensures.new_held ∙ ap (λ (l : List Bool). set l (a - 1) true) c.in_ok-held.ensures),
    )
