use Rattle.std.proofs.Common.{◌<◌, length, get_or, arith, refl}
use Rattle.mp_relaxed.proofs.UserLemmas.{takes_step}
use Rattle.mp_relaxed.proofs.users.note.Goals as goal

pub loop-x-preserved : goal.loop-x-preserved
loop-x-preserved c =
    let within = c.requires c.loop-x.x-index 0 in
    let at : get_or c.args.pre.now c.loop-x.x-index 0 < length c.loop-x.lists.items = omega (arith, c.loop-x.invariant.as_many) in
    takes_step c.args.lists.now.items c.loop-x.lists.items c.args.pre.now c.args.operator c.loop-x.x-index _ c.loop-x.invariant (omega arith) refl at _ c.push.new.self c.index_mut.ensures.value c.in_ok-push.ensures.ok
