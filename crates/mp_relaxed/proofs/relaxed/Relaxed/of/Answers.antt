use Rattle.std.proofs.Common.{◌≡◌, ◌<◌, ◌≤◌, ◌+◌, ◌++◌, length, map, All, ap, subst, sym, ◌∙◌, arith}
use Rattle.std.proofs.lemmas.List.{length-map}
use Rattle.std.proofs.lemmas.List.Elements.{All-map}
use Rattle.mp_task.specs.AgentTask.{AgentTask}
use Rattle.mp_task.specs.Strips.{Operator}
use Rattle.mp_task.specs.Projected.{projected}
use Rattle.mp_task.specs.TaskFields.{agent_task}
use Rattle.mp_relaxed.specs.Relaxed.{delete_relaxation, zipped}
use Rattle.mp_relaxed.specs.RelaxedFields.{relaxed_problem}
use Rattle.mp_relaxed.specs.Laws.Bounds.{costs_fit, operators_fit}
use Rattle.mp_relaxed.proofs.ZippedLemmas.{zipped_is}
use Rattle.mp_relaxed.proofs.ProjectedLemmas.{pres_fit, adds_fit, goals_fit}
use Rattle.mp_relaxed.proofs.relaxed.Relaxed.of.Goals as goal

pub users_of-requires-clause-below : goal.users_of-requires-clause-below
users_of-requires-clause-below c =
    let t = agent_task c.task.inside in
    subst (All (All (λ x. x < t.publics + t.privates)))
    (sym (subst (λ (u : AgentTask). c.in_ok-pres.pres ≡ map (λ o. o.pre) (projected u).operators) (sym c.task.view_is) c.in_ok-pres.ensures))
    (pres_fit t c.task.invariant)

pub invariant_of-result : goal.invariant_of-result
invariant_of-result c =
    let t = agent_task c.task.inside in
    let pres = subst (λ (u : AgentTask). c.in_ok-pres.pres ≡ map (λ o. o.pre) (projected u).operators) (sym c.task.view_is) c.in_ok-pres.ensures in
    let adds = subst (λ (u : AgentTask). c.in_ok-adds.adds ≡ map (λ o. o.add) (projected u).operators) (sym c.task.view_is) c.in_ok-adds.ensures in
    let costs = subst (λ (u : AgentTask). c.in_ok-costs.costs.items ≡ map (λ o. o.cost) (projected u).operators) (sym c.task.view_is) c.in_ok-costs.ensures in
    let goals : c.gather.new.facts.items ≡ (projected t).goals = c.in_ok-gather.ensures.ok ∙ ap (λ xs. xs ++ (projected t).goals) c.new-goals.ensures.items in
    let os = (projected t).operators in
    let long = ap length pres ∙ length-map os (λ o. o.pre) in
    record {
      adds_each = ap length adds ∙ length-map os (λ o. o.add) ∙ sym long;
      cost_each = ap length costs ∙ length-map os (λ o. o.cost) ∙ sym long;
      few = let fit = operators_fit t c.task.invariant in omega arith;
      cheap = subst (All (λ n. n ≤ 16000000)) (sym costs) (All-map (λ n. n ≤ 16000000) (λ (o : Operator). o.cost) os (costs_fit t c.task.invariant));
      pres_below = subst (All (All (λ x. x < t.publics + t.privates))) (sym pres) (pres_fit t c.task.invariant);
      adds_below = subst (All (All (λ x. x < t.publics + t.privates))) (sym adds) (adds_fit t c.task.invariant);
      goals_below = subst (All (λ x. x < t.publics + t.privates)) (sym goals) (goals_fit t c.task.invariant);
      users_right = c.in_ok-users.ensures;
      free_right = c.in_ok-free.ensures;
      counts_right = c.in_ok-counts.ensures;
    }

pub returns-clause-made : goal.returns-clause-made
returns-clause-made c =
    let t = agent_task c.task.inside in
    let pres = subst (λ (u : AgentTask). c.in_ok-pres.pres ≡ map (λ o. o.pre) (projected u).operators) (sym c.task.view_is) c.in_ok-pres.ensures in
    let adds = subst (λ (u : AgentTask). c.in_ok-adds.adds ≡ map (λ o. o.add) (projected u).operators) (sym c.task.view_is) c.in_ok-adds.ensures in
    let costs = subst (λ (u : AgentTask). c.in_ok-costs.costs.items ≡ map (λ o. o.cost) (projected u).operators) (sym c.task.view_is) c.in_ok-costs.ensures in
    let goals : c.gather.new.facts.items ≡ (projected t).goals = c.in_ok-gather.ensures.ok ∙ ap (λ xs. xs ++ (projected t).goals) c.new-goals.ensures.items in
    let operators = (λ i. zipped (pres i) (adds i) (costs i)) ∙ zipped_is (projected t).operators in
    let inside : relaxed_problem (record { publics = c.task.inside.publics; facts = c.task.inside.publics + c.task.inside.privates; pres = c.in_ok-pres.pres; adds = c.in_ok-adds.adds; costs = c.in_ok-costs.costs; goals = c.gather.new.facts; users = c.in_ok-users.users; free = c.in_ok-free.free; counts = c.in_ok-counts.counts }) ≡ delete_relaxation t = (λ i. record { publics = t.publics; facts = t.publics + t.privates; operators = operators i; goals = goals i }) in
    inside ∙ ap delete_relaxation c.task.view_is
