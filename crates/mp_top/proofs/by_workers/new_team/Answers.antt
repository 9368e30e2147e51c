use Rattle.std.proofs.Common.{All, ap, subst, ◌∙◌}
use Rattle.mp_schedule.specs.Machines.{limit_of, tasks_of}
use Rattle.mp_task.specs.Limits.{IsWithinLimits}
use Rattle.mp_solve.proofs.Ends.{are_new, new_limit, new_tasks}
use Rattle.mp_top.proofs.by_workers.new_team.Goals as goal

pub returns-clause-new : goal.returns-clause-new
returns-clause-new g c =
    are_new g.H.Heuristic.value c.args.limit c.args.tasks c.requires.some c.in_ok-machines.machines.items
    c.in_ok-machines.ensures c.requires.at_most c.requires.most
    (record { agree = c.requires.agree; within = subst (All IsWithinLimits) c.as_slice.ensures c.are_within_limits.ensures })

pub returns-clause-limit : goal.returns-clause-limit
returns-clause-limit g c =
    ap limit_of c.in_ok-machines.ensures ∙ new_limit g.H.Heuristic.value c.args.limit c.args.tasks c.requires.some

pub returns-clause-tasks : goal.returns-clause-tasks
returns-clause-tasks g c =
    ap tasks_of c.in_ok-machines.ensures ∙ new_tasks g.H.Heuristic.value c.args.limit c.args.tasks
