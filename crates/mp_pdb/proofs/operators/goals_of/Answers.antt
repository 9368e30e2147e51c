use Rattle.std.proofs.Common.{ℕ, ◌+◌, ◌++◌, List, map, take, ap, subst, ◌∙◌}
use Rattle.mp_task.specs.AgentTask.{AgentTask}
use Rattle.mp_task.specs.Limits.{IsWithinLimits}
use Rattle.mp_task.specs.Projected.{facts_of}
use Rattle.mp_pdb.specs.Masks.{SizedPattern}
use Rattle.mp_pdb.proofs.GrowthLemmas.{first_goals}
use Rattle.mp_pdb.proofs.operators.goals_of.Goals as goal

abbrev with_first : SizedPattern → ℕ → List ℕ → SizedPattern
with_first p offset facts = record { size = p.size; facts = take 12 (p.facts ++ map (λ k. offset + k) facts) }

pub returns-clause-made : goal.returns-clause-made
returns-clause-made c =
    let u = c.task.inside in
    let two = c.in_ok-push_first-2.ensures ∙ ap (λ p. with_first p u.publics c.as_slice-2.result.now) (c.in_ok-push_first.ensures ∙ ap (λ p. with_first p 0 c.as_slice.result.now) c.in_ok-pattern.ensures) in
    two
    ∙ (λ j. record { size = u.publics + u.privates; facts = (first_goals u.publics c.as_slice.result.now c.as_slice-2.result.now ∙ (λ i. take 12 (facts_of u.publics (c.as_slice.ensures.numbers i) (c.as_slice-2.ensures.numbers i)))) j })
    ∙ ap (λ (t : AgentTask). record { size = t.publics + t.privates; facts = take 12 (facts_of t.publics t.goal_pub t.goal_priv) }) c.task.view_is

pub returns-clause-limits : goal.returns-clause-limits
returns-clause-limits c = subst IsWithinLimits c.task.view_is c.task.invariant
