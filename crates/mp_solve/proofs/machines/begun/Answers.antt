use Rattle.std.proofs.Common.{All, subst}
use Rattle.mp_task.specs.Limits.{IsWithinLimits}
use Rattle.mp_solve.proofs.Ends.{are_new, has_begun, starts}
use Rattle.mp_solve.proofs.machines.begun.Goals as goal

pub new-requires : goal.new-requires
new-requires g c =
    are_new g.H.Heuristic.value c.args.limit c.args.tasks c.requires.some c.in_ok-machines.machines.items
    c.in_ok-machines.ensures c.requires.at_most c.requires.most
    (record { agree = c.requires.agree; within = subst (All IsWithinLimits) c.as_slice.ensures c.are_within_limits.ensures })

pub returns-clause-start : goal.returns-clause-start
returns-clause-start g c =
    starts g.H.Heuristic.value c.args.limit c.args.tasks c.requires.some c.in_ok-machines.machines.items
    c.in_ok-machines.ensures c.in_ok-world.world c.in_ok-world.ensures.made

pub returns-clause-team : goal.returns-clause-team
returns-clause-team g c =
    has_begun g.H.Heuristic.value c.args.limit c.args.tasks c.in_ok-world.world
    (starts g.H.Heuristic.value c.args.limit c.args.tasks c.requires.some c.in_ok-machines.machines.items
    c.in_ok-machines.ensures c.in_ok-world.world c.in_ok-world.ensures.made)
    c.comes_from_a_run.ensures.team c.comes_from_a_run.ensures.run
