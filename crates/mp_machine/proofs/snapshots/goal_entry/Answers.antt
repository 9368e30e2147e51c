use Rattle.std.proofs.Common.{ap, ◌∙◌}
use Rattle.mp_machine.specs.Snapshots.{if_walkable}
use Rattle.mp_machine.proofs.StoreSeen.{goal_seen}
use Rattle.mp_machine.proofs.snapshots.goal_entry.Goals as goal

pub returns : goal.returns
returns g c =
    c.if_walkable.ensures
    ∙ ap if_walkable (c.least_goal.ensures ∙ goal_seen c.store.result.now c.args.search.now.done.kept c.store.ensures)
