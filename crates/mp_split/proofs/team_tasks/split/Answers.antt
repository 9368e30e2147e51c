use Rattle.mp_split.proofs.Basics.{All, ap, length, map, subst, sym, ◌∙◌, KeepsLimits, closed_view, IsReady}
use Rattle.std.proofs.lemmas.List.Elements.{All-weaker}
use Rattle.mp_split.proofs.team_tasks.split.Goals as goal

pub closed_views-requires : goal.closed_views-requires
closed_views-requires c =
    let grounds = c.args.grounds.items in
    subst (All KeepsLimits) (sym c.as_slice.ensures.value) (All-weaker (IsReady (length grounds)) KeepsLimits (λ g is. is.limits) grounds c.requires.ready)

pub tasks_shown-requires-clause-views : goal.tasks_shown-requires-clause-views
tasks_shown-requires-clause-views c = c.in_ok-views.ensures ∙ ap (map closed_view) c.as_slice.ensures.value
