use Rattle.std.proofs.Common.{length, ◌∙◌}
use Rattle.mp_task.specs.AgentTask.{AgentTask}
use Rattle.mp_task.proofs.Agreeing.{Contains-slice_get}
use Rattle.mp_audit.proofs.EntryLemmas.{finder_inside, finder_is}
use Rattle.mp_audit.proofs.FillLemmas.{size_there, sizes_kept}
use Rattle.mp_audit.proofs.SizeLemmas.{mine_size}
use Rattle.mp_audit.proofs.entries.task_failure.Goals as goal

pub bounds-finders-place : goal.bounds-finders-place
bounds-finders-place c =
    let d = c.args.known.now in
    finder_inside d.tasks.now d.finders.items c.as_slice-finders.result.now c.requires.ready.finders c.as_slice-finders.ensures.value c.args.place c.args.task.now c.requires.task

pub agent_failure-requires-clause-finder : goal.agent_failure-requires-clause-finder
agent_failure-requires-clause-finder c =
    let d = c.args.known.now in
    finder_is d.tasks.now d.finders.items c.as_slice-finders.result.now c.requires.ready.finders c.as_slice-finders.ensures.value c.args.place c.args.task.now c.requires.task
    c.index-finders-place.result c.index-finders-place.is

pub agent_failure-requires-clause-team : goal.agent_failure-requires-clause-team
agent_failure-requires-clause-team c = Contains-slice_get c.args.known.now.tasks.now c.args.place c.args.task.now c.requires.task

pub agent_failure-requires-clause-actions : goal.agent_failure-requires-clause-actions
agent_failure-requires-clause-actions c =
    let t = c.args.task.now in
    mine_size c.args.found.now.items c.args.place (length t.acts) c.index_mut.result.now
    (size_there (λ (u : AgentTask). length u.acts) c.args.known.now.tasks.now c.args.found.now.items c.args.place t c.requires.actions c.requires.task)
    c.index_mut.ensures.value

pub returns-clause-actions : goal.returns-clause-actions
returns-clause-actions c =
    let t = c.args.task.now in
    sizes_kept c.args.found.now.items c.args.place c.agent_failure.new.found (length t.acts)
    (size_there (λ (u : AgentTask). length u.acts) c.args.known.now.tasks.now c.args.found.now.items c.args.place t c.requires.actions c.requires.task)
    c.agent_failure.ensures.actions
    ∙ c.requires.actions
