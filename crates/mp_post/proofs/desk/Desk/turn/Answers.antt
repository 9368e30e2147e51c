use Rattle.std.proofs.Common.{◌≡◌, ◌-◌, List, [], length, set, arith, sym, ap, subst, ◌∙◌}
use Rattle.std.proofs.lemmas.List.{length-set}
use Rattle.mp_stamps.specs.declared.stamped.Stamped.{Stamped}
use Rattle.mp_post.specs.Desks.{HoldsParty, SeenDesk}
use Rattle.mp_post.proofs.Lists.{list_within, lists_after, second}
use Rattle.mp_post.proofs.desk.Desk.turn.Goals as goal

pub put_own-requires : goal.put_own-requires
put_own-requires g c =
    let v = c.self.inside.seat.me.0 in
    let holds : HoldsParty c.args.by v = subst (λ (d : SeenDesk). HoldsParty c.args.by d.view) (sym c.self.view_is) c.requires.held in
    let low = list_within c.self.inside.lists c.self.inside.held.items v (second c.self.invariant) c.args.by holds in
    let same : length c.take_own-own.new.lists ≡ length c.self.inside.lists =
    ap (λ (l : List (List Stamped)). length l) c.take_own-own.ensures.others ∙ length-set c.self.inside.lists (c.args.by - 1) [] in
    omega arith

pub invariant_of-self : goal.invariant_of-self
invariant_of-self g c =
    let v = c.self.inside.seat.me.0 in
    let own = c.both_halves-answer.new.own.items in
    let holds : HoldsParty c.args.by v = subst (λ (d : SeenDesk). HoldsParty c.args.by d.view) (sym c.self.view_is) c.requires.held in (
      c.both_halves-answer.ensures.free,
      lists_after c.self.inside.lists c.self.inside.held.items v (second c.self.invariant) c.args.by holds own c.both_halves-answer.new.seat.me.0
          c.put_own.new.lists c.both_halves-answer.ensures.list
          (c.put_own.ensures ∙ ap (λ (l : List (List Stamped)). set l (c.args.by - 1) own) c.take_own-own.ensures.others),
    )
