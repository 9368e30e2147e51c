use Rattle.std.proofs.Common.{◌+◌, ◌*◌, ◌<◌, length, arith}
use Rattle.mp_audit.proofs.FlatBoundLemmas.{agent_there, bound_there, entry_is, entry_there, lists_inside, part_size}
use Rattle.mp_audit.proofs.flat_bounds.FlatBounds.entry.Goals as goal

pub overflow_add-count : goal.overflow_add-count
overflow_add-count c =
    let inside = c.self.inside in
    let room = lists_inside inside.agents inside.searchers.items inside.bounds.items inside.lists c.args.self.now c.args.at c.self.invariant c.self.view_is c.requires in
    let size : length inside.lists < 18446744073709551616 = (let is = c.len-count.ensures in let fits = c.len-count.type_inv in omega (arith, is, fits)) in
    omega (arith, room, size)

pub index-requires : goal.index-requires
index-requires c =
    let inside = c.self.inside in
    let there = agent_there inside.agents inside.searchers.items inside.bounds.items inside.lists c.args.self.now c.args.at c.self.invariant c.self.view_is c.requires in
    let count = inside.searchers.ok.0 in
    omega (arith, there, count)

pub index-requires-2 : goal.index-requires-2
index-requires-2 c =
    let inside = c.self.inside in
    let there = bound_there inside.agents inside.searchers.items inside.bounds.items inside.lists c.args.self.now c.args.at c.self.invariant c.self.view_is c.requires in
    let count = inside.bounds.ok.0 in
    omega (arith, there, count)

pub overflow_mul-at : goal.overflow_mul-at
overflow_mul-at c =
    let inside = c.self.inside in
    let room = lists_inside inside.agents inside.searchers.items inside.bounds.items inside.lists c.args.self.now c.args.at c.self.invariant c.self.view_is c.requires in
    let size : length inside.lists < 18446744073709551616 = (let is = c.len-count.ensures in let fits = c.len-count.type_inv in omega (arith, is, fits)) in
    omega (arith, room, size)

pub part-requires : goal.part-requires
part-requires c =
    let inside = c.self.inside in
    lists_inside inside.agents inside.searchers.items inside.bounds.items inside.lists c.args.self.now c.args.at c.self.invariant c.self.view_is c.requires

pub invariant_of-result : goal.invariant_of-result
invariant_of-result c =
    let inside = c.self.inside in
    let room = lists_inside inside.agents inside.searchers.items inside.bounds.items inside.lists c.args.self.now c.args.at c.self.invariant c.self.view_is c.requires in
    let size = part_size inside.lists (c.args.at * (inside.agents + 1)) (inside.agents + 1) room in
    rw c.part.ensures (omega (arith, size))

pub returns-clause-entry : goal.returns-clause-entry
returns-clause-entry c =
    let inside = c.self.inside in
    entry_there inside.agents inside.searchers.items inside.bounds.items inside.lists c.args.self.now c.args.at c.self.invariant c.self.view_is c.requires
    c.index.result.now c.index-2.result.now c.part.result c.index.ensures c.index-2.ensures c.part.ensures

pub returns-clause-is : goal.returns-clause-is
returns-clause-is c =
    let inside = c.self.inside in
    entry_is inside.agents inside.searchers.items inside.bounds.items inside.lists c.args.self.now c.args.at c.self.invariant c.self.view_is c.requires
    c.index.result.now c.index-2.result.now c.part.result c.index.ensures c.index-2.ensures c.part.ensures
