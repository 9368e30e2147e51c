use Rattle.std.proofs.Common.{◌≤◌, All, ap, sym, subst, arith}
use Rattle.std.proofs.lemmas.List.Elements.{All-map, All-nil}
use Rattle.mp_task.specs.AgentTask.{AgentTask}
use Rattle.mp_task.specs.Strips.{Operator}
use Rattle.mp_relaxed.specs.Dominated.{IsEquivalent}
use Rattle.mp_relaxed.specs.Relaxed.{RelaxedProblem, delete_relaxation}
use Rattle.mp_relaxed.specs.Memo.{IsRight, MemoTable, value_in}
use Rattle.mp_lmcut.specs.Cut.{lmcut_of}
use Rattle.mp_lmcut.specs.Sides.{repriced}
use Rattle.mp_lmcut.proofs.CostLemmas.{repriced_own}
use Rattle.mp_lmcut.proofs.lmcut.CutHeuristic.make.Goals as goal

pub invariant_of-result-clause-cheap : goal.invariant_of-result-clause-cheap
invariant_of-result-clause-cheap c =
    subst (All (λ n. n ≤ 16000000)) (sym c.in_ok-costs.ensures)
    (All-map (λ n. n ≤ 16000000) (λ (o : Operator). o.cost) _ c.operators.ensures.cheap)

pub invariant_of-result-clause-added : goal.invariant_of-result-clause-added
invariant_of-result-clause-added c = record {
  sized = c.in_ok-adders.ensures.each;
  all = c.in_ok-adders.ensures.all;
  below = c.in_ok-adders.ensures.below;
}

pub returns : goal.returns
returns c = (
  subst (λ (r : RelaxedProblem). IsEquivalent r (delete_relaxation c.args.task.now)) (sym (repriced_own _ _ c.in_ok-costs.ensures)) c.in_ok-problem.ensures.made,
  c.in_ok-problem.ensures.limits,
)

pub invariant_of-result-clause-right : goal.invariant_of-result-clause-right
invariant_of-result-clause-right c =
    subst (All (IsRight (value_in lmcut_of (repriced c.in_ok-costs.costs.items c.in_ok-problem.problem)))) (sym (ap (λ (m : MemoTable). m.entries) c.new-memo.ensures)) (All-nil _)

pub invariant_of-result-clause-private_sized : goal.invariant_of-result-clause-private_sized
invariant_of-result-clause-private_sized c =
    let publics = ap (λ (r : RelaxedProblem). r.publics) c.in_ok-problem.ensures.made.same in
    let facts = ap (λ (r : RelaxedProblem). r.facts) c.in_ok-problem.ensures.made.same in
    let privates = ap (λ (m : MemoTable). m.privates) c.new-memo.ensures in
    let own = ap (λ (t : AgentTask). t.privates) c.task.view_is in
    omega arith
