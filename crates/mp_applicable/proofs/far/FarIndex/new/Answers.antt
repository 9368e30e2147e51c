use Rattle.std.proofs.Common.{ℕ, ◌+◌, length, sym, ap, subst, ◌∙◌}
use Rattle.std.specs.Prelude.{IfSome, slice_get}
use Rattle.std.proofs.lemmas.List.{length_push}
use Rattle.mp_applicable.specs.Far.{ArePreconditionsOf}
use Rattle.mp_applicable.proofs.FarLemmas.{each_push}
use Rattle.mp_applicable.proofs.far.FarIndex.new.Goals as goal

pub loop-before-preserved : goal.loop-before-preserved
loop-before-preserved c =
    let t = c.args.task.now in
    let so_far = c.loop-before.invariant in
    let is : ArePreconditionsOf t (c.loop-before.before + 1) c.in_ok-preconditions_of.field-0.keys = c.in_ok-preconditions_of.ensures in
    record {
      agents = ap length c.in_ok-push.ensures.items ∙ length_push c.loop-before.lists.items c.in_ok-preconditions_of.field-0 ∙ ap (λ (n : ℕ). n + 1) so_far.agents;
      lists = λ k. subst (λ items. IfSome (slice_get items k) (λ set. ArePreconditionsOf t (k + 1) set.keys)) (sym c.in_ok-push.ensures.items)
          (each_push (λ n set. ArePreconditionsOf t (n + 1) set.keys) c.loop-before.lists.items c.in_ok-preconditions_of.field-0 so_far.lists
          (subst (λ (n : ℕ). ArePreconditionsOf t (n + 1) c.in_ok-preconditions_of.field-0.keys) (sym so_far.agents) is) k);
    }
