use Rattle.std.proofs.Common.{ℕ, ◌≤◌, All}
use Rattle.mp_post.specs.Desks.{HoldsParty, IsDeskOf}
use Rattle.mp_post.proofs.ring.all_seated.Given as goal

abbrev pub invariant-loop-left : goal.invariant-loop-left
invariant-loop-left g l = record {
  from_1 : 1 ≤ l.left;
  at_most : l.left ≤ 16;
  desk : IsDeskOf l.posts.shared.table_id l.posts.shared.key l.first;
  held : (agent : ℕ) → 1 ≤ agent → agent ≤ l.left → HoldsParty agent l.first.view;
  made : All (λ seated. IsDeskOf l.posts.shared.table_id l.posts.shared.key seated.desk × HoldsParty seated.agent seated.desk.view) l.all.items;
}

abbrev pub decreases-loop-left : goal.decreases-loop-left
decreases-loop-left g l = l.left
