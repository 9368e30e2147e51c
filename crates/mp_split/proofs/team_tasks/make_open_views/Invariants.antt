use Rattle.mp_split.proofs.Basics.{◌≡◌, map, take, open_view}
use Rattle.mp_split.proofs.team_tasks.make_open_views.Given as goal

abbrev pub invariant-loop-factor : goal.invariant-loop-factor
invariant-loop-factor l = l.views.items ≡ map open_view (take l.factor-index l.factors)
