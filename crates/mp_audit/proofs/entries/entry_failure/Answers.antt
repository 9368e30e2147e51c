use Rattle.std.proofs.Common.{ℕ, ◌≤◌, ◌-◌, slice_get, sym, ap, subst, ◌∙◌}
use Rattle.mp_audit.specs.States.{joint_of}
use Rattle.mp_audit.proofs.EntryLemmas.{by_task, no_task}
use Rattle.mp_audit.proofs.SizeLemmas.{sizes_of_task}
use Rattle.mp_audit.proofs.entries.entry_failure.Goals as goal

pub has_goals-requires : goal.has_goals-requires
has_goals-requires c = λ t here.
    sizes_of_task c.args.known.now.tasks.now t c.args.state.now (c.requires.ready.team t here) c.requires.sizes

pub task_failure-requires-clause-task : goal.task_failure-requires-clause-task
task_failure-requires-clause-task c = sym c.in-Some.ensures

pub returns-in_default-clause-first : goal.returns-in_default-clause-first
returns-in_default-clause-first c =
    let d = c.args.known.now in
    let b = c.args.bound.now in
    no_task d.tasks.now d.bounds.now.entries c.args.entry b (joint_of c.args.state.now) c.requires.state
    (sym c.has_goals.ensures ∙ c.if-has_goals.false) (subst (λ (n : ℕ). 1 ≤ n) c.agent.ensures c.place_of-place.ensures.from_1)
    (ap (slice_get d.tasks.now) (ap (λ (n : ℕ). n - 1) (sym c.agent.ensures) ∙ sym c.place_of-place.ensures.place) ∙ sym c.in_default.ensures)

pub returns-clause-first : goal.returns-clause-first
returns-clause-first c =
    let d = c.args.known.now in
    let b = c.args.bound.now in
    by_task d.tasks.now d.bounds.now.entries c.args.entry b (joint_of c.args.state.now) c.requires.state
    c.in-Some.task.now c.task_failure.result (sym c.has_goals.ensures ∙ c.if-has_goals.false) (subst (λ (n : ℕ). 1 ≤ n) c.agent.ensures c.place_of-place.ensures.from_1)
    (ap (slice_get d.tasks.now) (ap (λ (n : ℕ). n - 1) (sym c.agent.ensures) ∙ sym c.place_of-place.ensures.place) ∙ sym c.in-Some.ensures) c.task_failure.ensures.first
