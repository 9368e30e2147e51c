use Rattle.std.proofs.Common.{◌≡◌, map, take}
use Rattle.mp_views.specs.Opened.{open_view}
use Rattle.mp_team_facts.proofs.shown.open_views.Given as goal

abbrev pub invariant-loop-checked : goal.invariant-loop-checked
invariant-loop-checked l = l.views.items ≡ map open_view (take l.checked-index l.team)
