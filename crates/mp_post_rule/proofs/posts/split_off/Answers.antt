use Rattle.std.proofs.Common.{arith}
use Rattle.mp_post_rule.proofs.Splits.{splits}
use Rattle.mp_post_rule.proofs.posts.split_off.Goals as goal

pub split_seat-requires : goal.split_seat-requires
split_seat-requires g c =
    let words = c.requires.posts.words in let few = c.requires.posts.from_1 in (
      c.requires.table,
      omega arith,
      splits c.args.posts.now.shared.key _ c.args.seat.now.id c.args.seat.now.me.0 c.requires.held.0 c.requires.held.1,
    )
