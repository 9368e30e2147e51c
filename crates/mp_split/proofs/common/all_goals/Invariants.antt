use Rattle.mp_split.proofs.Basics.{◌≡◌, take, flat_map}
use Rattle.mp_split.proofs.common.all_goals.Given as goal

abbrev pub invariant-loop-view : goal.invariant-loop-view
invariant-loop-view l = l.names ≡ flat_map (λ v. v.goals) (take l.view-index l.views)
