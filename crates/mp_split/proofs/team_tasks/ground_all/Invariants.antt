use Rattle.mp_split.proofs.Basics.{◌≡◌, length, AreBegun}
use Rattle.mp_split.proofs.team_tasks.ground_all.Given as goal

abbrev pub invariant-loop-factor : goal.invariant-loop-factor
invariant-loop-factor l = record {
  count : length l.grounds.items ≡ l.factor-index;
  begun : AreBegun l.factors l.grounds.items;
}
