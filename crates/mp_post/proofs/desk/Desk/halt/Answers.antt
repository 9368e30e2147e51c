use Rattle.std.proofs.Common.{sym, ap, subst, ◌∙◌}
use Rattle.std.specs.Prelude.{length}
use Rattle.mp_post_rule.specs.Views.{party_at}
use Rattle.mp_post.specs.Desks.{HoldsParty, SeenDesk}
use Rattle.mp_post.proofs.Lists.{StaysFor, halted_all, second, still_held}
use Rattle.mp_post.proofs.desk.Desk.halt.Goals as goal

pub invariant_of-self : goal.invariant_of-self
invariant_of-self g c =
    let v = c.self.inside.seat.me.0 in
    let w = c.halt_all.new.seat.me.0 in
    let holds : HoldsParty c.args.by v = subst (λ (d : SeenDesk). HoldsParty c.args.by d.view) (sym c.self.view_is) c.requires.held in
    let stays : StaysFor c.args.by v w = halted_all c.args.by c.slot_count-agents.result v w holds c.halt_all.ensures.halted in
    let lists = second c.self.invariant in
    (c.halt_all.ensures.free, (lists.0 ∙ sym stays.lists, lists.1 ∙ sym stays.marks))

pub returns-clause-desk : goal.returns-clause-desk
returns-clause-desk g c =
    let v = c.self.inside.seat.me.0 in
    let w = c.halt_all.new.seat.me.0 in
    let holds : HoldsParty c.args.by v = subst (λ (d : SeenDesk). HoldsParty c.args.by d.view) (sym c.self.view_is) c.requires.held in
    let stays : StaysFor c.args.by v w = halted_all c.args.by c.slot_count-agents.result v w holds c.halt_all.ensures.halted in
    record {
      same = c.halt_all.ensures.same ∙ (ap (λ (d : SeenDesk). d.table) c.self.view_is ∙ c.requires.desk.same);
      many = stays.many ∙ (ap (λ (d : SeenDesk). length d.view.parties) c.self.view_is ∙ c.requires.desk.many);
    }

pub returns-clause-others : goal.returns-clause-others
returns-clause-others g c = λ agent other.
    let v = c.self.inside.seat.me.0 in
    let w = c.halt_all.new.seat.me.0 in
    let holds : HoldsParty c.args.by v = subst (λ (d : SeenDesk). HoldsParty c.args.by d.view) (sym c.self.view_is) c.requires.held in
    (halted_all c.args.by c.slot_count-agents.result v w holds c.halt_all.ensures.halted).others agent other
    ∙ ap (λ (d : SeenDesk). party_at d.view agent) c.self.view_is

pub returns-clause-holds : goal.returns-clause-holds
returns-clause-holds g c = λ agent held.
    let v = c.self.inside.seat.me.0 in
    let w = c.halt_all.new.seat.me.0 in
    let holds : HoldsParty c.args.by v = subst (λ (d : SeenDesk). HoldsParty c.args.by d.view) (sym c.self.view_is) c.requires.held in
    let stays = halted_all c.args.by c.slot_count-agents.result v w holds c.halt_all.ensures.halted in
    still_held c.args.by v w stays.holds stays.others agent (subst (λ (d : SeenDesk). HoldsParty agent d.view) (sym c.self.view_is) held)
