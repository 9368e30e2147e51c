use Rattle.mp_split.proofs.Basics.{◌≡◌, map, take, closed_view}
use Rattle.mp_split.proofs.team_tasks.closed_views.Given as goal

abbrev pub invariant-loop-ground : goal.invariant-loop-ground
invariant-loop-ground l = l.views.items ≡ map closed_view (take l.ground-index l.grounds)
