use Rattle.std.proofs.Common.{arith}
use Rattle.mp_post_rule.proofs.Joins.{joins}
use Rattle.mp_post_rule.proofs.posts.join_seats.Goals as goal

pub join_seat-requires : goal.join_seat-requires
join_seat-requires c =
    let words = c.requires.posts.words in let few = c.requires.posts.from_1 in (
      c.requires.table.0,
      c.requires.table.1,
      c.requires.free.no_slot,
      omega arith,
      joins c.args.posts.now.shared.key c.args.seat.now.id c.args.other.id c.args.seat.now.me.0 c.args.other.me.0 c.requires.free.no_turn,
    )
