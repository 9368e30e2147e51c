use Rattle.mp_post.specs.Desks.{HoldsParty, IsDeskOf}
use Rattle.mp_post.proofs.ring.take_rest.Given as goal

abbrev pub invariant-loop : goal.invariant-loop
invariant-loop g l = record {
  desk : IsDeskOf l.posts.shared.table_id l.posts.shared.key l.desk;
  held : HoldsParty l.by l.desk.view;
}
