use Rattle.mp_split.proofs.Basics.{ap, ◌∙◌, OpenView}
use Rattle.mp_views.specs.Opened.{joined}
use Rattle.mp_split.proofs.FirstAgents.{all_grounded, all_ready, all_within, of_the_team}
use Rattle.mp_split.proofs.team_tasks.tasks.Goals as goal

pub split-requires-clause-ready : goal.split-requires-clause-ready
split-requires-clause-ready c =
    let grounds = c.in_ok-grounds.grounds.items in
    all_ready c.args.factors.now grounds (all_grounded c.args.factors.now grounds c.in_ok-grounds.ensures.length c.in_ok-grounds.ensures.begun)

pub returns-clause-within : goal.returns-clause-within
returns-clause-within c =
    all_within c.args.factors.now c.in_ok-grounds.grounds.items c.in_ok-grounds.ensures.length c.in_ok-grounds.ensures.begun

pub returns-clause-tasks : goal.returns-clause-tasks
returns-clause-tasks c =
    let team = c.args.factors.now in
    let grounds = c.in_ok-grounds.grounds.items in
    let known = c.in_ok-known.ensures ∙ ap joined (c.as_slice.ensures.value ∙ c.in_ok-before.ensures) in
    of_the_team team c.in_ok-before.before.items c.in_ok-known.known.init grounds c.in_ok-split.field-0 c.in_ok-before.ensures
    (ap (λ (v : OpenView). v.init) known)
    (all_grounded team grounds c.in_ok-grounds.ensures.length c.in_ok-grounds.ensures.begun)
    c.in_ok-split.ensures.tasks c.in_ok-split.ensures.steps c.in_ok-split.ensures.views
