use Rattle.mp_split.proofs.Basics.{◌≡◌, List, ap, map, ◌∙◌, IfOk-weaker, Text, Tasks, common_of, task_with, task_of}
use Rattle.mp_split.proofs.Together.{shown_of, tasks_are, team_is_one, views_fit}
use Rattle.mp_split.proofs.team_tasks.tasks_shown.Goals as goal

pub make_common-requires-clause-fit : goal.make_common-requires-clause-fit
make_common-requires-clause-fit c =
    views_fit c.args.init c.args.grounds.items c.requires.agents c.requires.ready c.as_slice-shown.result.now c.as_slice-texts.result.now
    (c.as_slice-shown.ensures.value ∙ c.requires.views) (c.as_slice-texts.ensures ∙ c.in_ok-table.ensures)

pub tasks_of-requires : goal.tasks_of-requires
tasks_of-requires c =
    let views = c.as_slice-shown.result.now in
    let all = c.as_slice-texts.result.now in
    team_is_one c.args.init c.args.grounds.items c.requires.agents c.requires.ready views all
    (c.as_slice-shown.ensures.value ∙ c.requires.views) (c.as_slice-texts.ensures ∙ c.in_ok-table.ensures)
    c.in_ok-names.names c.in_ok-common.common c.in_ok-names.ensures
    (c.in_ok-common.ensures ∙ ap (λ (init : List Text). common_of all init views) c.as_slice.ensures)

pub returns-clause-tasks : goal.returns-clause-tasks
returns-clause-tasks c =
    let views = c.as_slice-shown.result.now in
    let all = c.as_slice-texts.result.now in
    let grounds = c.args.grounds.items in
    let same = tasks_are c.args.init grounds c.requires.agents c.requires.ready views all
    (c.as_slice-shown.ensures.value ∙ c.requires.views) (c.as_slice-texts.ensures ∙ c.in_ok-table.ensures)
    c.in_ok-names.names c.in_ok-common.common c.in_ok-names.ensures
    (c.in_ok-common.ensures ∙ ap (λ (init : List Text). common_of all init views) c.as_slice.ensures) in
    IfOk-weaker c.tasks_of.result (λ (t : Tasks). t.tasks ≡ map (task_with c.in_ok-names.names c.in_ok-common.common) grounds)
    (λ (t : Tasks). t.tasks ≡ map (task_of (shown_of c.args.init grounds)) grounds) (λ t made. made ∙ same) c.tasks_of.ensures.tasks
