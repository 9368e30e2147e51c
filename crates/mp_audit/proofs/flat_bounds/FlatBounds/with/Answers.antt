use Rattle.std.proofs.Common.{◌+◌, List, ap}
use Rattle.mp_audit.specs.declared.certificate.Bound.{Bound}
use Rattle.mp_audit.proofs.FlatBoundLemmas.{are_entries_push, entries_push, more_lists}
use Rattle.mp_audit.proofs.flat_bounds.FlatBounds.with.Goals as goal

pub invariant_of-result : goal.invariant_of-result
invariant_of-result c =
    let inside = c.self.inside in
    let lists = c.args.lists.now in
    rw (c.in_ok-push.ensures.items, c.in_ok-push-2.ensures.items, c.in_ok-extend.ensures)
    (are_entries_push (inside.agents + 1) inside.searchers.items inside.bounds.items inside.lists c.args.agent c.args.bound lists c.self.invariant
    (more_lists inside.agents c.args.self _ lists c.self.view_is c.requires))

pub returns : goal.returns
returns c =
    let inside = c.self.inside in
    let lists = c.args.lists.now in
    rw (c.in_ok-push.ensures.items, c.in_ok-push-2.ensures.items, c.in_ok-extend.ensures, ← c.self.view_is)
    (ap (λ (es : List Bound). record { agents = inside.agents; entries = es })
    (entries_push (inside.agents + 1) inside.searchers.items inside.bounds.items inside.lists c.args.agent c.args.bound lists c.self.invariant.as_many c.self.invariant.lists_each
    (more_lists inside.agents c.args.self _ lists c.self.view_is c.requires)))
