use Rattle.std.proofs.Common.{arith, subst}
use Rattle.mp_stamps.specs.Lists.{Matched}
use Rattle.mp_post_rule.specs.Kinds.{HoldsAll}
use Rattle.mp_post_rule.specs.Views.{lists_of}
use Rattle.mp_post_rule.proofs.Looks.{looks}
use Rattle.mp_post_rule.proofs.posts.look_at_lists.Goals as goal

pub load-requires : goal.load-requires
load-requires c =
    let words = c.requires.posts.words in let few = c.requires.posts.from_1 in (
      c.requires.table,
      omega arith,
      looks c.args.posts.now.shared.key c.args.posts.now.shared.table_id.slots c.args.seat.now.id 0 c.args.seat.now.me,
    )

pub returns-clause-lists : goal.returns-clause-lists
returns-clause-lists c = subst (λ n. HoldsAll n c.args.seat.now.me.0 → Matched (lists_of c.args.seat.now.me.0)) c.requires.posts.slots c.load.ensures.2.1
