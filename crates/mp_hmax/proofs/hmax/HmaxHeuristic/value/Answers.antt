use Rattle.std.proofs.Common.{◌≡◌, map, ap, ◌∙◌}
use Rattle.std.proofs.lemmas.Result.{IfOk-weaker}
use Rattle.mp_sets.specs.Numbers.{Numbers}
use Rattle.mp_task.specs.AgentTask.{AgentTask}
use Rattle.mp_task.specs.Projected.{projected, projected_state}
use Rattle.mp_relaxed.specs.Dominated.{IsEquivalent}
use Rattle.mp_relaxed.specs.Memo.{value_in}
use Rattle.mp_relaxed.specs.Relaxed.{RelaxedProblem, delete_relaxation, state_of, without_deletes}
use Rattle.mp_relaxed.specs.Values.{fact_values, greatest}
use Rattle.mp_relaxed.proofs.DominatedLemmas.{equivalent_bare, same_values}
use Rattle.mp_hmax.specs.Hmax.{hmax, hmax_of}
use Rattle.mp_hmax.proofs.hmax.HmaxHeuristic.value.Goals as goal

hmax_found : (t : AgentTask) (r : RelaxedProblem) (p q : Numbers) → IsEquivalent r (delete_relaxation t) → value_in hmax_of r p q ≡ hmax t p q
hmax_found t r p q e =
    let os = (projected t).operators in
    let s = projected_state t p q in
    ap (λ (k : RelaxedProblem). greatest (fact_values r.operators (state_of k p q)) k.goals) e.same
    ∙ (λ i. greatest (λ x. same_values r.operators (map without_deletes os) e.operators s x i) (projected t).goals)
    ∙ (λ i. greatest (λ x. same_values (map without_deletes os) os (equivalent_bare os) s x i) (projected t).goals)

pub returns-clause-value : goal.returns-clause-value
returns-clause-value c =
    let p = c.args.publics.now.members in
    let q = c.args.privates.now.members in
    IfOk-weaker c.recall_or_estimate.result (λ found. found ≡ value_in hmax_of c.args.self.now.problem p q) _
    (λ found e t h. e ∙ hmax_found t c.args.self.now.problem p q h.0)
    c.recall_or_estimate.ensures.found
