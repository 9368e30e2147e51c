use Rattle.std.proofs.Common.{◌≡◌, ◌+◌, length, arith}
use Rattle.mp_audit.proofs.FlatLemmas.{cut_push, fills_push}
use Rattle.mp_audit.proofs.flat_lists.FlatLists.push.Goals as goal

pub invariant_of-self-in-Ok : goal.invariant_of-self-in-Ok
invariant_of-self-in-Ok c =
    let inside = c.self.inside in
    let size = inside.numbers.ok.0 in
    let is : c.in_ok-end.end ≡ length inside.numbers.items + length c.args.list.now = omega (arith, c.in_ok-end.ensures.ok, c.len-start.ensures) in
    rw (c.in-Ok.ensures.items, c.in_ok-extend_from_slice.ensures.items)
    (fills_push inside.ends.items inside.numbers.items c.args.list.now c.in_ok-end.end is c.requires.rising c.self.invariant)

pub returns-in-Ok-clause-ok : goal.returns-in-Ok-clause-ok
returns-in-Ok-clause-ok c =
    let inside = c.self.inside in
    let size = inside.numbers.ok.0 in
    let is : c.in_ok-end.end ≡ length inside.numbers.items + length c.args.list.now = omega (arith, c.in_ok-end.ensures.ok, c.len-start.ensures) in
    rw (c.in-Ok.ensures.items, c.in_ok-extend_from_slice.ensures.items, ← c.self.view_is)
    (cut_push 0 inside.ends.items inside.numbers.items c.args.list.now c.in_ok-end.end is c.self.invariant.are_cut.within c.self.invariant.all)
