use Rattle.mp_views.proofs.Basics.{IfOk, List, ◌≡◌, subst, Part}
use Rattle.mp_views.proofs.PartLemmas.{parts_are}
use Rattle.mp_views.proofs.parts.sorted_parts.Goals as goal

pub returns : goal.returns
returns c =
    let is = parts_are c.args.parts.items c.in_ok-sorted.sorted.items c.sort.new.self.items c.dedup.new.self.items c.in_ok-sorted.ensures c.in_ok-sort.ensures.stable c.in_ok-sort.ensures.sorted c.dedup.ensures.filtered in
    subst (λ (items : List Part). IfOk c.list_of.result (λ list. list ≡ items)) is c.list_of.ensures
