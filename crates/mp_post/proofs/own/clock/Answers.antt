use Rattle.std.proofs.Common.{sym}
use Rattle.mp_post.proofs.Lists.{last_is}
use Rattle.mp_post.proofs.own.clock.Goals as goal

pub returns-in-Some : goal.returns-in-Some
returns-in-Some c = sym (last_is 0 c.args.own.now c.in-Some.last.now (sym c.in-Some.ensures.value))
