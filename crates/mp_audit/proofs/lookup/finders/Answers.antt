use Rattle.std.proofs.Common.{◌≡◌, ℕ, ◌+◌, length, Some, slice_get, sym, ap, subst, ◌∙◌, arith}
use Rattle.std.specs.Prelude.{IfSome}
use Rattle.std.proofs.lemmas.List.{length_push}
use Rattle.std.proofs.lemmas.Option.{same_Some, slice_get-get_or}
use Rattle.mp_task.specs.AgentTask.{AgentTask}
use Rattle.mp_applicable.proofs.FarLemmas.{each_push}
use Rattle.mp_audit.specs.declared.lookup.Finder.{Finder}
use Rattle.mp_audit.specs.Tables.{IsFinderOf}
use Rattle.mp_audit.proofs.lookup.finders.Goals as goal

pub loop-task-preserved : goal.loop-task-preserved
loop-task-preserved c =
    let l = c.loop-task in
    let tasks = c.args.tasks.now in
    let x = c.task-item.result in
    let one = c.in_ok-one.one in
    let lt = c.loop-task-test.true in
    let so_far = l.invariant in
    let here : slice_get tasks (length l.made.items) ≡ Some x =
    ap (slice_get tasks) so_far.as_many ∙ slice_get-get_or tasks l.task-index x lt ∙ ap (λ (u : AgentTask). Some u) (sym c.task-item.is) in
    let P : ℕ → Finder → Type 0 = λ k finder. (t : AgentTask) → slice_get tasks k ≡ Some t → IsFinderOf t finder in
    record {
      inside = omega (arith, lt);
      as_many = ap length c.in_ok-push.ensures.items ∙ length_push l.made.items one ∙ ap (λ (n : ℕ). n + 1) so_far.as_many;
      each = λ k. subst (λ items. IfSome (slice_get items k) (P k)) (sym c.in_ok-push.ensures.items)
          (each_push P l.made.items one so_far.each
          (λ t is. subst (λ (u : AgentTask). IsFinderOf u one) (same_Some x t (sym here ∙ is)) c.in_ok-one.ensures) k);
    }

pub returns : goal.returns
returns c =
    let so_far = c.loop-task.invariant in
    let inside = so_far.inside in
    let past = c.loop-task-test.false in
    let count = so_far.as_many in
    record { as_many = omega (arith, inside, past, count); each = so_far.each }
