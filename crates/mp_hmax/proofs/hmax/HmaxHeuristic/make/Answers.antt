use Rattle.std.proofs.Common.{All, ap, sym, subst, arith}
use Rattle.std.proofs.lemmas.List.Elements.{All-nil}
use Rattle.mp_task.specs.AgentTask.{AgentTask}
use Rattle.mp_relaxed.specs.Memo.{IsRight, MemoTable, value_in}
use Rattle.mp_relaxed.specs.Relaxed.{RelaxedProblem}
use Rattle.mp_hmax.specs.Hmax.{hmax_of}
use Rattle.mp_hmax.proofs.hmax.HmaxHeuristic.make.Goals as goal

pub invariant_of-result-clause-right : goal.invariant_of-result-clause-right
invariant_of-result-clause-right c =
    subst (All (IsRight (value_in hmax_of c.in_ok-problem.problem))) (sym (ap (λ (m : MemoTable). m.entries) c.new-memo.ensures)) (All-nil _)

pub invariant_of-result-clause-private_sized : goal.invariant_of-result-clause-private_sized
invariant_of-result-clause-private_sized c =
    let publics = ap (λ (r : RelaxedProblem). r.publics) c.in_ok-problem.ensures.made.same in
    let facts = ap (λ (r : RelaxedProblem). r.facts) c.in_ok-problem.ensures.made.same in
    let privates = ap (λ (m : MemoTable). m.privates) c.new-memo.ensures in
    let own = ap (λ (t : AgentTask). t.privates) c.task.view_is in
    omega arith
