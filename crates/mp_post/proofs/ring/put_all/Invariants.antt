use Rattle.mp_post.specs.Desks.{HoldsParty, IsDeskOf}
use Rattle.mp_post.proofs.ring.put_all.Given as goal

abbrev pub invariant-loop-byte : goal.invariant-loop-byte
invariant-loop-byte g l = record {
  desk : IsDeskOf l.posts.shared.table_id l.posts.shared.key l.desk;
  held : HoldsParty l.by l.desk.view;
}
